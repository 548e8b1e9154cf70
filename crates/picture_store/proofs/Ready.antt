-- When the pictures of the keys at a key's own entries are held, by the numbers that a node names.
use Rattle.std.proofs.Common.{◌≡◌, ◌≢◌, refl, sym, ap, subst, ◌∙◌, ℕ, zero, suc, ◌<◌, List, [], ◌∷◌, map, length, get_or, AllPairs, Option, Some, None, IsSome, Contains, inl, inr, arith}
use Rattle.std.specs.Option.{unwrap_or}
use Rattle.std.proofs.lemmas.List.{get_or-map, length-map}
use Rattle.std.proofs.lemmas.List.Elements.{Contains-get_or}
use Rattle.h264_controls.specs.declared.request.RequestBody.{RequestBody}
use Rattle.decode_jobs.specs.KeyMaps.{tree_at, tree_from, entered, AreLive}
use Rattle.decode_jobs.specs.Trees.Tree.{Bare}
use Rattle.decode_jobs.specs.Keys.{Key}
use Rattle.held_pictures.specs.KeySlots.{place_at, numbers_held}
use Rattle.held_pictures.specs.Going.{AreAbove, AreRising}
use Rattle.picture_store.specs.KeySlots.{KeySlotsValue}
use Rattle.picture_store.specs.Stores.{IsReady}
use Rattle.picture_store.specs.Stored.{Trees, AreRight, key_for, keys_for}
use Rattle.picture_store.specs.Due.{IsHeld, AreHeld}
use Rattle.held_pictures.proofs.Held.{held_found, found_held, held_rising}
use Rattle.picture_store.proofs.Loops.{first_in, later_in, in_cases}
use Rattle.decode_jobs.specs.Inputs.{InputValue}

-- what is there of an element is there of the list
map_in : {X Y : Type 0} (f : X → Y) (xs : List X) (x : X) → Contains xs x → Contains (map f xs) (f x)
map_in f [] x (k, within, is) = absurd (omega (arith, within))
map_in f (y ∷ xs) x there =
    elim (in_cases y xs x there) [
      | inl here ↦ subst (λ z. Contains (f y ∷ map f xs) (f z)) here (first_in (f y) (map f xs))
      | inr later ↦ later_in (f y) (map f xs) (f x) (map_in f xs x later)
    ]

of_map : {X Y : Type 0} (f : X → Y) (xs : List X) (y : Y) → Contains (map f xs) y → (x : X) × Contains xs x × (f x ≡ y)
of_map f [] y (k, within, is) = absurd (omega (arith, within))
of_map f (x ∷ xs) y there =
    elim (in_cases (f x) (map f xs) y there) [
      | inl here ↦ (x, first_in x xs, here)
      | inr later ↦ let r = of_map f xs y later in (r.0, later_in x xs r.0 r.1, r.2)
    ]

key_of : (keys : Trees) (number : ℕ) (key : Key) → tree_at keys number ≡ Some key → key_for keys number ≡ key
key_of keys number key there = ap (λ (tree : Option Key). unwrap_or tree (Bare [])) there

-- of rising numbers a later one is greater
above_at : (least : ℕ) (numbers : List ℕ) → AreAbove least numbers → (i d : ℕ) → i < length numbers → least < get_or numbers i d
above_at least [] above i d within = absurd (omega arith)
above_at least (number ∷ numbers) above zero d within = above.0
above_at least (number ∷ numbers) above (suc i) d within =
    let later : number < get_or numbers i d = above_at number numbers above.1 i d (omega arith) in
    omega (arith, above.0, later)

rising_rest : (number : ℕ) (numbers : List ℕ) → AreAbove number numbers → AreRising numbers
rising_rest number [] above = tt
rising_rest number (next ∷ numbers) above = above.1

rising_at : (numbers : List ℕ) → AreRising numbers → (i j d : ℕ) → i < j → j < length numbers → get_or numbers i d < get_or numbers j d
rising_at [] rising i j d less within = absurd (omega arith)
rising_at (number ∷ numbers) rising i zero d less within = absurd (omega arith)
rising_at (number ∷ numbers) rising zero (suc j) d less within = above_at number numbers rising j d (omega arith)
rising_at (number ∷ numbers) rising (suc i) (suc j) d less within =
    rising_at numbers (rising_rest number numbers rising) i j d (omega arith) (omega arith)

module _ {P : Type 0} {IsDecoded : InputValue P → P → Type 0} {IsOf : Key → P → Type 0} (keys : Trees) (key_slots : KeySlotsValue P) (right : AreRight IsDecoded IsOf keys key_slots) where
  pub held_key : (number : ℕ) (key : Key) → tree_at keys number ≡ Some key → IsHeld key_slots number
      → Contains (keys_for keys (numbers_held key_slots)) key
  held_key number key there held =
      subst (λ k. Contains (keys_for keys (numbers_held key_slots)) k) (key_of keys number key there)
      (map_in (key_for keys) (numbers_held key_slots) number
      (found_held key_slots number held.0 held.1))

  pub key_held : (number : ℕ) (key : Key) → tree_at keys number ≡ Some key → Contains (keys_for keys (numbers_held key_slots)) key
      → IsHeld key_slots number
  key_held number key there among =
      let by_key = of_map (key_for keys) (numbers_held key_slots) key among in
      let by_number = held_found key_slots by_key.0 by_key.1 in
      let placed : place_at key_slots by_key.0 ≡ Some (Some by_number.0) = by_number.1 in
      let of_it = right.held by_key.0 by_number.0 placed in
      let same : of_it.0 ≡ key = sym (key_of keys by_key.0 of_it.0 of_it.1) ∙ by_key.2 in
      let found : tree_at keys by_key.0 ≡ Some key = of_it.1 ∙ ap (λ k. Some k) same in
      let one : by_key.0 ≡ number = right.one.trees by_key.0 number key found there in
      subst (λ n. IsHeld key_slots n) one (by_number.0, placed)

  ready_entry : (number : ℕ) (tree : Option Key) (rest : Key) → tree_at keys number ≡ tree → IsSome tree → IsHeld key_slots number
      → IsReady (keys_for keys (numbers_held key_slots)) rest → IsReady (keys_for keys (numbers_held key_slots)) (entered tree rest)
  ready_entry number None rest there live held ready = cc
  ready_entry number (Some key) rest there live held ready = (held_key number key there held, ready)

  entry_ready : (number : ℕ) (tree : Option Key) (rest : Key) → tree_at keys number ≡ tree → IsSome tree
      → IsReady (keys_for keys (numbers_held key_slots)) (entered tree rest)
      → IsHeld key_slots number × IsReady (keys_for keys (numbers_held key_slots)) rest
  entry_ready number None rest there live ready = cc
  entry_ready number (Some key) rest there live ready = (key_held number key there ready.0, ready.1)

  pub is_ready : (body : List RequestBody) (entries : List (Option ℕ)) → AreLive keys entries → AreHeld key_slots entries
      → IsReady (keys_for keys (numbers_held key_slots)) (tree_from keys body entries)
  is_ready body [] live held = tt
  is_ready body (None ∷ entries) live held = is_ready body entries live.1 held
  is_ready body (Some number ∷ entries) live held =
      ready_entry number (tree_at keys number) (tree_from keys body entries) refl live.0 held.0 (is_ready body entries live.1 held.1)

  pub are_held : (body : List RequestBody) (entries : List (Option ℕ)) → AreLive keys entries
      → IsReady (keys_for keys (numbers_held key_slots)) (tree_from keys body entries) → AreHeld key_slots entries
  are_held body [] live ready = tt
  are_held body (None ∷ entries) live ready = are_held body entries live.1 ready
  are_held body (Some number ∷ entries) live ready =
      let r = entry_ready number (tree_at keys number) (tree_from keys body entries) refl live.0 ready in
      (r.0, are_held body entries live.1 r.1)

  -- no key is held twice
  pub held_once : AllPairs ◌≢◌ (keys_for keys (numbers_held key_slots))
  held_once = λ i j d less within. λ same.
      let numbers : List ℕ = numbers_held key_slots in
      let second_in : j < length numbers = omega (arith, length-map numbers (key_for keys)) in
      let first_in : i < length numbers = omega (arith, second_in, less) in
      let first : ℕ = get_or numbers i 0 in
      let second : ℕ = get_or numbers j 0 in
      let first_held = held_found key_slots first (Contains-get_or numbers i 0 first_in) in
      let second_held = held_found key_slots second (Contains-get_or numbers j 0 second_in) in
      let first_of = right.held first first_held.0 first_held.1 in
      let second_of = right.held second second_held.0 second_held.1 in
      let one : second_of.0 ≡ first_of.0 =
      sym (key_of keys second second_of.0 second_of.1) ∙ sym (get_or-map (key_for keys) numbers j 0 d second_in)
      ∙ sym same ∙ get_or-map (key_for keys) numbers i 0 d first_in ∙ key_of keys first first_of.0 first_of.1 in
      let numbers_same : first ≡ second =
      right.one.trees first second first_of.0 first_of.1 (second_of.1 ∙ ap (λ k. Some k) one) in
      let less_too : first < second = rising_at numbers (held_rising key_slots) i j 0 less second_in in
      omega (arith, numbers_same, less_too)
