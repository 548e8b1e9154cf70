-- The table of drops, receipt by receipt and book by book.
use Rattle.std.proofs.Common.{◌≡◌, ◌⊎◌, ℕ, zero, suc, ◌+◌, Bool, cond, List, [], ◌∷◌, ◌++◌, take, length, Some, ap, sym, ◌∙◌, subst, refl, arith, eqb, inl, inr}
use Rattle.std.specs.Prelude.{◌↔◌, option_map, slice_get, unwrap_or, Contains, Vec}
use Rattle.std.specs.Global.{Global}
use Rattle.std.proofs.lemmas.Bool.Decides.{eqb_tells}
use Rattle.std.proofs.lemmas.List.{length-take-le}
use Rattle.std.proofs.lemmas.List.Elements.{Contains-append_left, Contains-append_right, Contains-append_cases, Contains-push, Contains-push_cases}
use Rattle.std.proofs.lemmas.Option.{slice_get_within}
use Rattle.stand_in_session.specs.declared.jobs.Dropping.{Dropping}
use Rattle.stand_in_session.specs.declared.jobs.Dropping.TheVariants as dropping
use Rattle.seat_books.specs.declared.book.SeatBook.{SeatBook}
use Rattle.seat_books.specs.declared.drop_table.SeatDrop.{SeatDrop}
use Rattle.seat_books.specs.declared.receipts.SeatReceipt.{SeatReceipt}
use Rattle.seat_books.specs.declared.receipts.SeatReceipt.TheVariants as receipts
use Rattle.seat_books.specs.Drops.{IsDropIn, IsDropOf}
use Rattle.seat_books.proofs.Pushed.{among, get_before, get_last, get_push, lone_is, take_next}

-- the drop of a receipt
abbrev noted : ℕ → ℕ → SeatDrop
noted seat id = record { seat = seat; id = id }

id_same : (id other n m : ℕ) → receipts.Drop id dropping.Dropped n ≡ receipts.Drop other dropping.Dropped m → id ≡ other
id_same id other n m same = cc

length_same : (id other n m : ℕ) → receipts.Drop id dropping.Dropped n ≡ receipts.Drop other dropping.Dropped m → n ≡ m
length_same id other n m same = cc

-- a drop that is added
pub added_drop : (seat id at n : ℕ) (drop : SeatDrop) (before after : List SeatDrop)
    → after ≡ cond (eqb at n) (before ++ noted seat id ∷ []) before
    → Contains after drop ↔ (Contains before drop ⊎ IsDropIn seat (receipts.Drop id dropping.Dropped at ∷ []) n drop)
added_drop seat id at n drop before after is =
    elim (eqb_tells at n) [
      | inl same ↦ here same.1 (is ∙ ap (λ (b : Bool). cond b (before ++ noted seat id ∷ []) before) same.0)
      | inr apart ↦ elsewhere apart.1 (is ∙ ap (λ (b : Bool). cond b (before ++ noted seat id ∷ []) before) apart.0)
    ]
  where
    one : List SeatReceipt
    one = receipts.Drop id dropping.Dropped at ∷ []

    same_drop : drop.seat ≡ seat → id ≡ drop.id → noted seat id ≡ drop
    same_drop seats ids = ap (λ (s : ℕ). noted s id) (sym seats) ∙ ap (λ (i : ℕ). noted drop.seat i) ids

    here : at ≡ n → after ≡ before ++ noted seat id ∷ []
        → Contains after drop ↔ (Contains before drop ⊎ IsDropIn seat one n drop)
    here at_is now = (
      λ has.
          elim (Contains-push_cases before (noted seat id) drop (subst (λ (ds : List SeatDrop). Contains ds drop) now has)) [
            | inl was ↦ inl was
            | inr last ↦
                inr (
                  sym (ap (λ (d : SeatDrop). d.seat) last),
                  among one 0 (receipts.Drop drop.id dropping.Dropped n)
                      (ap (λ (d : SeatDrop). Some (receipts.Drop d.id dropping.Dropped at)) last
                      ∙ ap (λ (m : ℕ). Some (receipts.Drop drop.id dropping.Dropped m)) at_is),
                )
          ],
      λ either.
          subst (λ (ds : List SeatDrop). Contains ds drop) (sym now)
          (elim either [
            | inl was ↦ Contains-append_left before (noted seat id ∷ []) drop was
            | inr new ↦
                let same = lone_is (receipts.Drop id dropping.Dropped at) (receipts.Drop drop.id dropping.Dropped n) new.1 in
                subst (λ (d : SeatDrop). Contains (before ++ noted seat id ∷ []) d) (same_drop new.0 (id_same id drop.id at n same))
                (Contains-push before (noted seat id))
          ]),
    )

    elsewhere : (at ≡ n → ⊥) → after ≡ before → Contains after drop ↔ (Contains before drop ⊎ IsDropIn seat one n drop)
    elsewhere differs now = (
      λ has. inl (subst (λ (ds : List SeatDrop). Contains ds drop) now has),
      λ either.
          subst (λ (ds : List SeatDrop). Contains ds drop) (sym now)
          (elim either [
            | inl was ↦ was
            | inr new ↦
                let same = lone_is (receipts.Drop id dropping.Dropped at) (receipts.Drop drop.id dropping.Dropped n) new.1 in
                absurd (differs (length_same id drop.id at n same))
          ]),
    )

-- the receipt is of no picture that was dropped
abbrev IsNoDrop : SeatReceipt → Type 0
IsNoDrop (receipts.Drop id answer n) = answer ≡ dropping.Dropped → ⊥
IsNoDrop _ = Unit {0}

no_drop : (receipt : SeatReceipt) (id n : ℕ) → IsNoDrop receipt → receipt ≡ receipts.Drop id dropping.Dropped n → ⊥
no_drop (receipts.Edit edit other m) id n none same = cc
no_drop (receipts.Group group m) id n none same = cc
no_drop (receipts.Show other answer m) id n none same = cc
no_drop (receipts.Drop other answer m) id n none same = none (answers other id answer m n same)
  where
    answers : (other id : ℕ) (answer : Dropping) (m n : ℕ)
        → receipts.Drop other answer m ≡ receipts.Drop id dropping.Dropped n → answer ≡ dropping.Dropped
    answers other id answer m n same = cc

-- no drop is added
pub nothing_added : (seat n : ℕ) (drop : SeatDrop) (before : List SeatDrop) (receipt : SeatReceipt) → IsNoDrop receipt
    → Contains before drop ↔ (Contains before drop ⊎ IsDropIn seat (receipt ∷ []) n drop)
nothing_added seat n drop before receipt none = (
  λ was. inl was,
  λ either.
      elim either [
        | inl was ↦ was
        | inr new ↦ absurd (no_drop receipt drop.id n none (lone_is receipt (receipts.Drop drop.id dropping.Dropped n) new.1))
      ],
)

-- the drops of one receipt more
pub in_more : (seat n : ℕ) (drop : SeatDrop) (book : List SeatReceipt) (i : ℕ) (receipt : SeatReceipt)
    (start mid after : List SeatDrop) → slice_get book i ≡ Some receipt
    → Contains mid drop ↔ (Contains start drop ⊎ IsDropIn seat (take i book) n drop)
    → Contains after drop ↔ (Contains mid drop ⊎ IsDropIn seat (receipt ∷ []) n drop)
    → Contains after drop ↔ (Contains start drop ⊎ IsDropIn seat (take (i + 1) book) n drop)
in_more seat n drop book i receipt start mid after stands were now = (to, from)
  where
    sought : SeatReceipt
    sought = receipts.Drop drop.id dropping.Dropped n

    next : take (i + 1) book ≡ take i book ++ receipt ∷ []
    next = take_next book i receipt stands

    among_next : Contains (take i book ++ receipt ∷ []) sought → Contains (take (i + 1) book) sought
    among_next has = subst (λ (rs : List SeatReceipt). Contains rs sought) (sym next) has

    to : Contains after drop → Contains start drop ⊎ IsDropIn seat (take (i + 1) book) n drop
    to has =
        elim (now.0 has) [
          | inl was ↦
              elim (were.0 was) [
                | inl first ↦ inl first
                | inr before ↦ inr (before.0, among_next (Contains-append_left (take i book) (receipt ∷ []) sought before.1))
              ]
          | inr new ↦ inr (new.0, among_next (Contains-append_right (take i book) (receipt ∷ []) sought new.1))
        ]

    from : Contains start drop ⊎ IsDropIn seat (take (i + 1) book) n drop → Contains after drop
    from either =
        elim either [
          | inl first ↦ now.1 (inl (were.1 (inl first)))
          | inr in_book ↦
              elim (Contains-append_cases (take i book) (receipt ∷ []) sought
              (subst (λ (rs : List SeatReceipt). Contains rs sought) next in_book.1)) [
                | inl before ↦ now.1 (inl (were.1 (inr (in_book.0, before))))
                | inr new ↦ now.1 (inr (in_book.0, new))
              ]
        ]

-- before the first receipt there is none
pub in_none : (seat n : ℕ) (drop : SeatDrop) (start : List SeatDrop)
    → Contains start drop ↔ (Contains start drop ⊎ IsDropIn seat [] n drop)
in_none seat n drop start = (
  λ was. inl was,
  λ either. elim either [ inl was ↦ was | inr new ↦ absurd (omega (arith, new.1.1)) ],
)

-- the drops of one book more
pub of_more : (n : ℕ) (drop : SeatDrop) (books : List SeatBook) (i : ℕ) (book : SeatBook) (mid after : List SeatDrop)
    → slice_get books i ≡ Some book → Contains mid drop ↔ IsDropOf (take i books) n drop
    → Contains after drop ↔ (Contains mid drop ⊎ IsDropIn i book.receipts.items n drop)
    → Contains after drop ↔ IsDropOf (take (i + 1) books) n drop
of_more n drop books i book mid after stands were now = (to, from)
  where
    next : take (i + 1) books ≡ take i books ++ book ∷ []
    next = take_next books i book stands

    long : length (take i books) ≡ i
    long = length-take-le i books (omega (arith, slice_get_within books i book stands))

    placed : (other : SeatBook) → slice_get (take i books ++ book ∷ []) drop.seat ≡ Some other
        → slice_get (take (i + 1) books) drop.seat ≡ Some other
    placed other is = subst (λ (bs : List SeatBook). slice_get bs drop.seat ≡ Some other) (sym next) is

    to : Contains after drop → IsDropOf (take (i + 1) books) n drop
    to has =
        elim (now.0 has) [
          | inl was ↦
              let of = were.0 was in
              (of.0, placed of.0 (get_before (take i books) book of.0 drop.seat of.1), of.2)
          | inr new ↦
              let last : slice_get (take i books ++ book ∷ []) drop.seat ≡ Some book =
              subst (λ (k : ℕ). slice_get (take i books ++ book ∷ []) k ≡ Some book) (long ∙ sym new.0)
              (get_last (take i books) book) in
              (book, placed book last, new.1)
        ]

    from : IsDropOf (take (i + 1) books) n drop → Contains after drop
    from of =
        let there : slice_get (take i books ++ book ∷ []) drop.seat ≡ Some of.0 =
        subst (λ (bs : List SeatBook). slice_get bs drop.seat ≡ Some of.0) next of.1 in
        elim (get_push (take i books) book of.0 drop.seat there) [
          | inl before ↦ now.1 (inl (were.1 (of.0, before, of.2)))
          | inr last ↦
              now.1
              (inr (
                last.0 ∙ long,
                subst (λ (b : SeatBook). Contains b.receipts.items (receipts.Drop drop.id dropping.Dropped n)) last.1 of.2,
              ))
        ]

-- before the first book there is none
pub of_none : (n : ℕ) (drop : SeatDrop) (start : List SeatDrop) → start ≡ [] → Contains start drop ↔ IsDropOf [] n drop
of_none n drop start none = (
  λ has. absurd (empty_has (subst (λ (ds : List SeatDrop). Contains ds drop) none has)),
  λ of. absurd (nothing of.0 of.1),
)
  where
    empty_has : Contains [] drop → ⊥
    empty_has has = omega (arith, has.1)

    nothing : (book : SeatBook) → slice_get [] drop.seat ≡ Some book → ⊥
    nothing book is = cc

-- a table without drops, for one length more
pub none_more : (lists : List (Vec SeatDrop Global)) (more : Vec SeatDrop Global) → more.items ≡ []
    → ((n : ℕ) → unwrap_or (option_map (λ drops. drops.items) (slice_get lists n)) [] ≡ [])
    → (n : ℕ) → unwrap_or (option_map (λ drops. drops.items) (slice_get (lists ++ more ∷ []) n)) [] ≡ []
none_more [] more empty none zero = empty
none_more [] more empty none (suc n) = refl
none_more (list ∷ lists) more empty none zero = none zero
none_more (list ∷ lists) more empty none (suc n) = none_more lists more empty (λ m. none (suc m)) n
