-- Units that go, counted by their keys.
use Rattle.std.proofs.Common.{◌≡◌, refl, ap, sym, subst, ◌∙◌, ℕ, zero, suc, ◌+◌, ◌<◌, ◌≤◌, Bool, true, false, ◌==◌, List, [], ◌∷◌, ◌++◌, length, get_or, take, Option, None, Some, IsSome, if◌then◌else◌, inl, inr, ◌⊎◌, arith}
use Rattle.std.specs.Prelude.{Contains}
use Rattle.std.specs.List.Sorted.{IsNonDecreasing}
use Rattle.std.proofs.lemmas.Bool.{eqb-true, eq-eqb}
use Rattle.std.proofs.lemmas.List.Sums.{sum_by_more, sum_by-take-le}
use Rattle.std.proofs.lemmas.List.Elements.{Contains-push_cases, Contains-append_left, Contains-push}
use Rattle.std.proofs.lemmas.List.{take_more}
use Rattle.held_pictures.specs.declared.key_slots.slots.Slot.{Slot}
use Rattle.held_pictures.specs.Left.{IsLeft, IsPut, ArePut}
use Rattle.held_pictures.specs.Counting.{once_if, times_in}
use Rattle.held_pictures.specs.KeySlots.{uses_at, place_at}
use Rattle.held_pictures.specs.Going.{AreAbove, AreRising, Goes, IsHeldBefore}
use Rattle.held_pictures.proofs.Members.{here, there, nowhere, first_or_among, left_among}
use Rattle.held_pictures.proofs.Slots.{used_some, some_used}

-- what a list has after its first
rest_rising : (least : ℕ) (numbers : List ℕ) → AreAbove least numbers → AreRising numbers
rest_rising least [] above = tt
rest_rising least (number ∷ numbers) above = above.1

all_above : (least : ℕ) (numbers : List ℕ) (number : ℕ) → AreAbove least numbers → Contains numbers number → least < number
all_above least [] number above is = absurd (nowhere number is)
all_above least (first ∷ numbers) number above is =
    elim (first_or_among first number numbers is) [
      | inl same ↦ subst (λ n. least < n) same above.0
      | inr later ↦ omega (arith, above.0, all_above first numbers number above.1 later)
    ]

-- what is left where something else goes of those that there are
pub left_among_same : (First Then : ℕ → Type 0) (xs left : List ℕ) → ((x : ℕ) → Contains xs x → First x → Then x)
    → ((x : ℕ) → Contains xs x → Then x → First x) → IsLeft First xs left → IsLeft Then xs left
left_among_same First Then [] left to from is = is
left_among_same First Then (x ∷ xs) left to from is =
    elim is [
      | inl goes ↦
          inl (
            to x (here x xs) goes.0,
            left_among_same First Then xs left (λ y among. to y (there x y xs among)) (λ y among. from y (there x y xs among)) goes.1,
          )
      | inr stays ↦
          inr (
            λ then'. stays.0 (from x (here x xs) then'),
            (
              stays.1.0,
              stays.1.1,
              left_among_same First Then xs stays.1.0 (λ y among. to y (there x y xs among)) (λ y among. from y (there x y xs among)) stays.1.2,
            ),
          )
    ]

-- what is left didn't go
pub left_stays : (First : ℕ → Type 0) (xs left : List ℕ) → IsLeft First xs left → (x : ℕ) → Contains left x → First x → ⊥
left_stays First [] left is x among = absurd (nowhere x (subst (λ l. Contains l x) is among))
left_stays First (first ∷ xs) left is x among =
    elim is [
      | inl goes ↦ left_stays First xs left goes.1 x among
      | inr stays ↦
          elim (first_or_among first x stays.1.0 (subst (λ l. Contains l x) stays.1.1 among)) [
            | inl same ↦ subst (λ y. First y → ⊥) same stays.0
            | inr later ↦ left_stays First xs stays.1.0 stays.1.2 x later
          ]
    ]

-- where all go, none is left
pub all_go : (First : ℕ → Type 0) (xs : List ℕ) → ((x : ℕ) → Contains xs x → First x) → IsLeft First xs []
all_go First [] all = refl
all_go First (x ∷ xs) all = inl (all x (here x xs), all_go First xs (λ y among. all y (there x y xs among)))

same_or_not : (b : Bool) (a c : ℕ) → b ≡ (a == c) → (a ≡ c) ⊎ (a ≡ c → ⊥)
same_or_not true a c is = inl (eqb-true a c (sym is))
same_or_not false a c is = inr (λ same. let yes : (a == c) ≡ true = eq-eqb a c same in cc)

none_below : (least : ℕ) (xs left : List ℕ) (First : ℕ → Type 0) → AreAbove least xs → IsLeft First xs left
    → ((n : ℕ) → Contains left n → n < least) → left ≡ []
none_below least xs [] First above is below = refl
none_below least xs (n ∷ left) First above is below =
    absurd (omega (arith, below n (here n left), all_above least xs n above (left_among First xs (n ∷ left) is n (here n left))))

module _ (First Then : ℕ → Type 0) (k : ℕ) (goes : First k) (not : Then k → ⊥)
    (to : (n : ℕ) → (n ≡ k → ⊥) → First n → Then n) (from : (n : ℕ) → Then n → First n) where
  -- one number more is left, which is above those that are
  pub left_one_more : (xs left : List ℕ) → AreRising xs → Contains xs k → ((n : ℕ) → Contains left n → n < k) → IsLeft First xs left
      → IsLeft Then xs (left ++ k ∷ [])
  left_one_more [] left rising among below is = absurd (nowhere k among)
  left_one_more (x ∷ xs) left rising among below is =
      elim is [
        | inl gone ↦
            elim (same_or_not (x == k) x k refl) [
              | inl same ↦
                  let above : AreAbove k xs = subst (λ n. AreAbove n xs) same rising in
                  let none : left ≡ [] = none_below k xs left First above gone.1 below in
                  let rest : IsLeft First xs [] = subst (λ l. IsLeft First xs l) none gone.1 in
                  inr (
                    λ then'. not (subst Then same then'),
                    (
                      [],
                      ap (λ l. l ++ k ∷ []) none ∙ ap (λ n. n ∷ []) (sym same),
                      left_among_same First Then xs []
                          (λ n later first. to n (λ one. absurd (omega (arith, all_above k xs n above later, one))) first)
                          (λ n later then'. from n then') rest,
                    ),
                  )
              | inr apart ↦
                  inl (
                    to x apart gone.0,
                    elim (first_or_among x k xs among) [
                      | inl same ↦ absurd (apart same)
                      | inr later ↦ left_one_more xs left (rest_rising x xs rising) later below gone.1
                    ],
                  )
            ]
        | inr stays ↦
            inr (
              λ then'. stays.0 (from x then'),
              (
                stays.1.0 ++ k ∷ [],
                ap (λ l. l ++ k ∷ []) stays.1.1,
                elim (first_or_among x k xs among) [
                  | inl same ↦ absurd (stays.0 (subst First (sym same) goes))
                  | inr later ↦
                      left_one_more xs stays.1.0 (rest_rising x xs rising) later
                      (λ n is_left. below n (subst (λ l. Contains l n) (sym stays.1.1) (there x n stays.1.0 is_left))) stays.1.2
                ],
              ),
            )
      ]

-- one key more is put, or lost
pub put_last : (capacity : ℕ) (gone : List ℕ) (key : ℕ) (cached mid new : List ℕ) (lost more : ℕ) → ArePut capacity gone cached mid lost
    → (IsPut capacity key mid new × (more ≡ 0)) ⊎ ((new ≡ mid) × (more ≡ 1)) → ArePut capacity (gone ++ key ∷ []) cached new (lost + more)
put_last capacity [] key cached mid new lost more are put =
    elim put [
      | inl is ↦ inl (new, subst (λ l. IsPut capacity key l new) are.0 is.0, (refl, omega (arith, are.1, is.1)))
      | inr stays ↦ inr (0, omega (arith, are.1, stays.1), (stays.0 ∙ are.0, refl))
    ]
put_last capacity (first ∷ gone) key cached mid new lost more are put =
    elim are [
      | inl one ↦ inl (one.0, one.1, put_last capacity gone key one.0 mid new lost more one.2 put)
      | inr one ↦ inr (one.0 + more, omega (arith, one.1), put_last capacity gone key cached mid new one.0 more one.2 put)
    ]

-- how often a key stands among one more
pub times_in_more : (keys : List ℕ) (i number key : ℕ) → i < length keys → key ≡ get_or keys i key
    → times_in number (take (i + 1) keys) ≡ times_in number (take i keys) + once_if number key
times_in_more keys i number key within is =
    sum_by_more (once_if number) keys i key within
    ∙ ap (λ (k : ℕ). times_in number (take i keys) + once_if number k) (sym is)

once_own : (key : ℕ) → once_if key key ≡ 1
once_own key = ap (λ (b : Bool). if b then 1 else 0) (eq-eqb key key refl)

-- a key that is still to go is in use
pub in_use_yet : (keys : List ℕ) (i key : ℕ) (uses before : ℕ) → i < length keys → key ≡ get_or keys i key
    → uses + times_in key (take i keys) ≡ before → times_in key keys ≤ before → 0 < uses
in_use_yet keys i key uses before within is now enough =
    omega (arith, now, enough, times_in_more keys i key key within is, once_own key, sum_by-take-le (once_if key) keys (i + 1))

-- among keys in rising order, those in front aren't above one
below_it : (keys : List ℕ) (i key n : ℕ) → IsNonDecreasing keys → i < length keys → key ≡ get_or keys i key
    → Contains (take i keys) n → n ≤ key
below_it keys i key n rising within is (j, there_j, at_j) =
    let in_front : j < i = omega (arith, there_j, length-take-at-most i keys) in
    let read : get_or keys j n ≡ n = sym (get_or-take_front keys i j n in_front) ∙ at_j in
    let ordered : get_or keys j n ≤ get_or keys i n = rising j i n (omega (arith, in_front)) within in
    let same : get_or keys i n ≡ key = get_or_any keys i n key within ∙ sym is in
    omega (arith, read, ordered, same)
  where
    length-take-at-most : (i : ℕ) (xs : List ℕ) → length (take i xs) ≤ i
    length-take-at-most zero xs = omega arith
    length-take-at-most (suc i) [] = omega arith
    length-take-at-most (suc i) (x ∷ xs) = omega (arith, length-take-at-most i xs)

    get_or-take_front : (xs : List ℕ) (i j d : ℕ) → j < i → get_or (take i xs) j d ≡ get_or xs j d
    get_or-take_front xs zero j d less = absurd (omega (arith, less))
    get_or-take_front [] (suc i) j d less = refl
    get_or-take_front (x ∷ xs) (suc i) zero d less = refl
    get_or-take_front (x ∷ xs) (suc i) (suc j) d less = get_or-take_front xs i j d (omega (arith, less))

    get_or_any : (xs : List ℕ) (i d e : ℕ) → i < length xs → get_or xs i d ≡ get_or xs i e
    get_or_any [] i d e less = absurd (omega (arith, less))
    get_or_any (x ∷ xs) zero d e less = refl
    get_or_any (x ∷ xs) (suc i) d e less = get_or_any xs i d e (omega (arith, less))

-- of one unit that goes, one picture is lost at most
pub lost_at_most_one : {P : Type 0} (old : List (Slot P)) (key : ℕ) (cached : List ℕ) (capacity : ℕ) (new : List (Slot P)) (more : List ℕ)
    (lost : ℕ) → Goes old key cached capacity new more lost → lost ≤ 1
lost_at_most_one old key cached capacity new more lost goes =
    elim goes.cache [
      | inl out ↦ elim out.3 [ inl put ↦ omega (arith, put.1) | inr stays ↦ omega (arith, stays.1) ]
      | inr stays ↦ omega (arith, stays.2)
    ]

-- keys that went so far, put into the cache but for those that are lost
pub record HaveGone {P : Type 0} (held leaving : List ℕ) (i : ℕ) (key_slots : List (Slot P)) (capacity : ℕ) (cached new : List ℕ) (lost : ℕ) : Type 0 where
  pub gone : List ℕ
  pub left : IsLeft (λ number. IsSome (place_at key_slots number)) held gone
  pub put : ArePut capacity gone cached new lost
  pub among : (number : ℕ) → Contains gone number → Contains (take i leaving) number

module _ {P : Type 0} (held leaving : List ℕ) (old : List (Slot P)) (before : IsHeldBefore held leaving old) where
  -- none went yet
  pub none_gone : (capacity : ℕ) (cached : List ℕ) → HaveGone held leaving 0 old capacity cached cached 0
  none_gone capacity cached = record {
    gone = [];
    left =
        all_go (λ number. IsSome (place_at old number)) held
        (λ number is. ap is_some_of (before.pictured number is).1);
    put = (refl, refl);
    among = λ number is. absurd (nowhere number is);
  }
    where
      is_some_of : Option (Option P) → Bool
      is_some_of None = false
      is_some_of (Some place) = true

  module _ (i key : ℕ) (within : i < length leaving) (is : key ≡ get_or leaving i key) (rising : IsNonDecreasing leaving)
      (mid new : List (Slot P)) (stay : (number : ℕ) → 0 < uses_at mid number → place_at mid number ≡ place_at old number)
      (used : 0 < uses_at mid key) (capacity : ℕ) (cached between after : List ℕ) (lost more : ℕ)
      (goes : Goes mid key between capacity new after more) (have : HaveGone held leaving i mid capacity cached between lost) where
    later : (number : ℕ) → Contains (take i leaving) number → Contains (take (i + 1) leaving) number
    later number among =
        subst (λ l. Contains l number) (sym (take_more leaving i key within))
        (Contains-append_left (take i leaving) (get_or leaving i key ∷ []) number among)

    itself : Contains (take (i + 1) leaving) key
    itself =
        subst (λ l. Contains l key) (sym (take_more leaving i key within))
        (subst (λ k. Contains (take i leaving ++ get_or leaving i key ∷ []) k) (sym is)
        (Contains-push (take i leaving) (get_or leaving i key)))

    other_uses : (number : ℕ) → (number ≡ key → ⊥) → uses_at new number ≡ uses_at mid number
    other_uses number apart =
        omega (arith, goes.uses number, no_once (key == number) refl)
      where
        no_once : (b : Bool) → b ≡ (key == number) → once_if number key ≡ 0
        no_once true equal = absurd (apart (sym (eqb-true key number (sym equal))))
        no_once false differs = ap (λ (b : Bool). if b then 1 else 0) (sym differs)

    fewer : (number : ℕ) → IsSome (place_at new number) → IsSome (place_at mid number)
    fewer number some = some_used mid number (omega (arith, goes.uses number, used_some new number some))

    as_before : (number : ℕ) → (number ≡ key → ⊥) → IsSome (place_at mid number) → IsSome (place_at new number)
    as_before number apart some =
        some_used new number (omega (arith, other_uses number apart, used_some mid number some))

    here_old : place_at mid key ≡ place_at old key
    here_old = stay key used

    -- the key goes out of use, with a picture
    with_picture : (picture : P) → place_at mid key ≡ Some (Some picture) → uses_at new key ≡ 0
        → (IsPut capacity key between after × (more ≡ 0)) ⊎ ((after ≡ between) × (more ≡ 1))
        → HaveGone held leaving (i + 1) new capacity cached after (lost + more)
    with_picture picture place none put = record {
      gone = have.gone ++ key ∷ [];
      left =
          left_one_more (λ number. IsSome (place_at mid number)) (λ number. IsSome (place_at new number)) key
          (some_used mid key used)
          (λ some. absurd (omega (arith, none, used_some new key some))) as_before fewer held have.gone before.rising
          (before.among key picture (item key) (sym here_old ∙ place))
          (λ n gone. omega (arith, below_it leaving i key n rising within is (have.among n gone), other_than n gone)) have.left;
      put = put_last capacity have.gone key cached between after lost more have.put put;
      among = λ number gone.
          elim (Contains-push_cases have.gone key number gone) [
            | inl earlier ↦ later number (have.among number earlier)
            | inr same ↦ subst (λ n. Contains (take (i + 1) leaving) n) same itself
          ];
    }
      where
        item : (n : ℕ) → Contains leaving key
        item n = (i, within, sym is)

        other_than : (n : ℕ) → Contains have.gone n → n ≡ key → ⊥
        other_than n gone same =
            left_stays (λ number. IsSome (place_at mid number)) held have.gone have.left n gone
            (some_used mid n (subst (λ m. 0 < uses_at mid m) (sym same) used))

    -- nothing goes out of use that has a picture
    without_picture : ((picture : P) → place_at mid key ≡ Some (Some picture) → 0 < uses_at new key) → after ≡ between
        → more ≡ 0 → HaveGone held leaving (i + 1) new capacity cached after (lost + more)
    without_picture unless same none = record {
      gone = have.gone;
      left =
          left_among_same (λ number. IsSome (place_at mid number)) (λ number. IsSome (place_at new number)) held have.gone
          (λ number among some. kept (number == key) number refl among some) (λ number among some. fewer number some) have.left;
      put =
          subst (λ l. ArePut capacity have.gone cached l (lost + more)) (sym same)
          (subst (λ n. ArePut capacity have.gone cached between n) (omega (arith, none)) have.put);
      among = λ number gone. later number (have.among number gone);
    }
      where
        kept : (b : Bool) (number : ℕ) → b ≡ (number == key) → Contains held number → IsSome (place_at mid number) → IsSome (place_at new number)
        kept true number equal among some =
            let one : number ≡ key = eqb-true number key (sym equal) in
            let shown : (picture : P) × (place_at old number ≡ Some (Some picture)) = before.pictured number among in
            let at_mid : place_at mid key ≡ Some (Some shown.0) =
            here_old ∙ subst (λ n. place_at old n ≡ Some (Some shown.0)) one shown.1 in
            subst (λ n. IsSome (place_at new n)) (sym one) (some_used new key (unless shown.0 at_mid))
        kept false number differs among some =
            as_before number (λ same_one. let yes : (number == key) ≡ true = eq-eqb number key same_one in cc) some

    -- one unit more goes
    pub gone_more : HaveGone held leaving (i + 1) new capacity cached after (lost + more)
    gone_more =
        elim goes.cache [
          | inl goes_out ↦ with_picture goes_out.0 goes_out.1 goes_out.2 goes_out.3
          | inr stays ↦ without_picture stays.0 stays.1 stays.2
        ]
