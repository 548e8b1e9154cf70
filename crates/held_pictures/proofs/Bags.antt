-- Pictures as bags: those at slots that change one by one, and those that a cache has.
use Rattle.std.proofs.Common.{◌≡◌, refl, ap, sym, subst, ◌∙◌, ℕ, zero, suc, ◌+◌, ◌<◌, Bool, true, false, ◌==◌, List, [], ◌∷◌, ◌++◌, length, append_assoc, Option, None, if◌then◌else◌, arith}
use Rattle.std.specs.Prelude.{IsPermutation, slice_set}
use Rattle.std.specs.Option.{option_to_list}
use Rattle.std.proofs.lemmas.Bool.{eqb-true}
use Rattle.std.proofs.lemmas.List.Sorted.{IsPermutation-refl, IsPermutation-sym, IsPermutation-trans, IsPermutation-middle, IsPermutation-append_comm, IsPermutation-append_left, IsPermutation-append_right, IsPermutation-to_front}
use Rattle.held_pictures.specs.declared.key_slots.slots.Slot.{Slot}
use Rattle.held_pictures.specs.KeySlots.{slot_at, uses_at, place_of, picture_held, pictures_held, taken_up}
use Rattle.held_pictures.proofs.Slots.{place_used, place_unused, used_within}

module _ {X : Type 0} where
  -- a part that stands second goes first
  pub front : (a b c : List X) → IsPermutation (a ++ (b ++ c)) (b ++ (a ++ c))
  front a b c =
      subst (λ l. IsPermutation l (b ++ (a ++ c))) (append_assoc a b c)
      (subst (λ l. IsPermutation ((a ++ b) ++ c) l) (append_assoc b a c)
      (IsPermutation-append_left c (a ++ b) (b ++ a) (IsPermutation-append_comm a b)))

  -- an item that a put takes: it or another goes behind what was released
  pub put_released : (x : X) (was now out released : List X) → IsPermutation (x ∷ was) (now ++ out)
      → IsPermutation (x ∷ (was ++ released)) (now ++ (released ++ out))
  put_released x was now out released put =
      IsPermutation-trans (x ∷ (was ++ released)) (now ++ (out ++ released)) (now ++ (released ++ out))
      (subst (λ l. IsPermutation ((x ∷ was) ++ released) l) (append_assoc now out released)
      (IsPermutation-append_left released (x ∷ was) (now ++ out) put))
      (IsPermutation-append_right now (out ++ released) (released ++ out) (IsPermutation-append_comm out released))

  -- an item that is refused goes behind what was released
  pub refused_released : (x : X) (was released : List X)
      → IsPermutation (x ∷ (was ++ released)) (was ++ (released ++ x ∷ []))
  refused_released x was released =
      put_released x was was (x ∷ []) released (IsPermutation-sym (was ++ x ∷ []) (x ∷ was) (IsPermutation-to_front was x))

  -- an item goes from the first part to the others
  pub one_gone : (x : X) (first rest more others new : List X) → IsPermutation (x ∷ rest) first
      → IsPermutation (x ∷ (more ++ others)) new
      → IsPermutation ((first ++ more) ++ others) (rest ++ new)
  one_gone x first rest more others new out into =
      let goes : IsPermutation (first ++ (more ++ others)) ((x ∷ rest) ++ (more ++ others)) =
      IsPermutation-append_left (more ++ others) first (x ∷ rest) (IsPermutation-sym (x ∷ rest) first out) in
      let moves : IsPermutation (x ∷ (rest ++ (more ++ others))) (rest ++ (x ∷ (more ++ others))) =
      IsPermutation-sym (rest ++ (x ∷ (more ++ others))) (x ∷ (rest ++ (more ++ others))) (IsPermutation-middle rest x (more ++ others)) in
      subst (λ l. IsPermutation l (rest ++ new)) (sym (append_assoc first more others))
      (IsPermutation-trans (first ++ (more ++ others)) (x ∷ (rest ++ (more ++ others))) (rest ++ new) goes
      (IsPermutation-trans (x ∷ (rest ++ (more ++ others))) (rest ++ (x ∷ (more ++ others))) (rest ++ new) moves
      (IsPermutation-append_right rest (x ∷ (more ++ others)) new into)))

  pub account_put : (x : X) (first rest more others now then' : List X) → IsPermutation (x ∷ rest) first
      → IsPermutation (x ∷ (more ++ others)) (now ++ then')
      → IsPermutation ((first ++ more) ++ others) ((rest ++ now) ++ then')
  account_put x first rest more others now then' out put =
      subst (λ l. IsPermutation ((first ++ more) ++ others) l) (sym (append_assoc rest now then'))
      (one_gone x first rest more others (now ++ then') out put)

  pub account_none : (first rest more others : List X) → IsPermutation rest first
      → IsPermutation ((first ++ more) ++ others) ((rest ++ more) ++ others)
  account_none first rest more others out =
      IsPermutation-append_left others (first ++ more) (rest ++ more)
      (IsPermutation-append_left more first rest (IsPermutation-sym rest first out))

  -- what leaves the second part comes to the first
  pub comes : (first then' was now some : List X) → IsPermutation was (now ++ some)
      → IsPermutation then' (some ++ first) → IsPermutation (first ++ was) (then' ++ now)
  comes first then' was now some leaves joins =
      let one : IsPermutation (first ++ was) (first ++ (some ++ now)) =
      IsPermutation-append_right first was (some ++ now)
      (IsPermutation-trans was (now ++ some) (some ++ now) leaves (IsPermutation-append_comm now some)) in
      let two : IsPermutation (first ++ (some ++ now)) ((some ++ first) ++ now) =
      subst (λ l. IsPermutation (first ++ (some ++ now)) l) (sym (append_assoc some first now)) (front first some now) in
      let three : IsPermutation ((some ++ first) ++ now) (then' ++ now) =
      IsPermutation-append_left now (some ++ first) then' (IsPermutation-sym then' (some ++ first) joins) in
      IsPermutation-trans (first ++ was) (first ++ (some ++ now)) (then' ++ now) one
      (IsPermutation-trans (first ++ (some ++ now)) ((some ++ first) ++ now) (then' ++ now) two three)

module _ {P : Type 0} where
  -- the picture that is held at a slot
  abbrev pub held_of : Slot P → List P
  held_of slot = option_to_list (picture_held (place_of slot))

  -- a slot that is set brings its picture, and the one that was there goes
  pub set_held : (key_slots : List (Slot P)) (key : ℕ) (slot : Slot P) → key < length key_slots
      → IsPermutation (held_of (slot_at key_slots key) ++ pictures_held (slice_set key_slots key slot)) (held_of slot ++ pictures_held key_slots)
  set_held [] key slot within = absurd (omega (arith, within))
  set_held (first ∷ key_slots) zero slot within = front (held_of first) (held_of slot) (pictures_held key_slots)
  set_held (first ∷ key_slots) (suc key) slot within =
      let rest : IsPermutation (held_of (slot_at key_slots key) ++ pictures_held (slice_set key_slots key slot)) (held_of slot ++ pictures_held key_slots) =
      set_held key_slots key slot (omega (arith, within)) in
      IsPermutation-trans (held_of (slot_at key_slots key) ++ (held_of first ++ pictures_held (slice_set key_slots key slot)))
      (held_of first ++ (held_of (slot_at key_slots key) ++ pictures_held (slice_set key_slots key slot)))
      (held_of slot ++ (held_of first ++ pictures_held key_slots))
      (front (held_of (slot_at key_slots key)) (held_of first) (pictures_held (slice_set key_slots key slot)))
      (IsPermutation-trans (held_of first ++ (held_of (slot_at key_slots key) ++ pictures_held (slice_set key_slots key slot)))
      (held_of first ++ (held_of slot ++ pictures_held key_slots))
      (held_of slot ++ (held_of first ++ pictures_held key_slots))
      (IsPermutation-append_right (held_of first) (held_of (slot_at key_slots key) ++ pictures_held (slice_set key_slots key slot))
      (held_of slot ++ pictures_held key_slots) rest)
      (front (held_of first) (held_of slot) (pictures_held key_slots)))

  -- one that has the same picture changes nothing
  pub set_same : (key_slots : List (Slot P)) (key : ℕ) (slot : Slot P) → key < length key_slots → held_of slot ≡ held_of (slot_at key_slots key)
      → pictures_held (slice_set key_slots key slot) ≡ pictures_held key_slots
  set_same [] key slot within same = absurd (omega (arith, within))
  set_same (first ∷ key_slots) zero slot within same = ap (λ l. l ++ pictures_held key_slots) same
  set_same (first ∷ key_slots) (suc key) slot within same =
      ap (λ l. held_of first ++ l) (set_same key_slots key slot (omega (arith, within)) same)

  held_used : (slot : Slot P) → 0 < slot.uses → held_of slot ≡ option_to_list slot.picture
  held_used slot used = ap (λ (place : Option (Option P)). option_to_list (picture_held place)) (place_used slot used)

  held_unused : (slot : Slot P) → slot.uses ≡ 0 → held_of slot ≡ []
  held_unused slot none = ap (λ (place : Option (Option P)). option_to_list (picture_held place)) (place_unused slot none)

  -- a picture comes to the place of a key in use
  pub filled : (old new : List (Slot P)) (key : ℕ) (picture : Option P) → 0 < uses_at old key
      → new ≡ slice_set old key (record { uses = uses_at old key; picture = picture })
      → IsPermutation (held_of (slot_at old key) ++ pictures_held new) (option_to_list picture ++ pictures_held old)
  filled old new key picture used is =
      let slot : Slot P = record { uses = uses_at old key; picture = picture } in
      subst (λ l. IsPermutation (held_of (slot_at old key) ++ pictures_held l) (option_to_list picture ++ pictures_held old)) (sym is)
      (subst (λ l. IsPermutation (held_of (slot_at old key) ++ pictures_held (slice_set old key slot)) (l ++ pictures_held old))
      (held_used slot used) (set_held old key slot (used_within old key used)))

  -- a key that comes into use has its picture from then on
  pub first_up : (old new : List (Slot P)) (key : ℕ) (picture : Option P) → key < length old → uses_at old key ≡ 0
      → new ≡ slice_set old key (taken_up (slot_at old key) picture)
      → IsPermutation (pictures_held new) (option_to_list picture ++ pictures_held old)
  first_up old new key picture within none is =
      let slot : Slot P = taken_up (slot_at old key) picture in
      let brings : held_of slot ≡ option_to_list picture =
      held_used slot (omega arith)
      ∙ ap (λ (n : ℕ). option_to_list (if n == 0 then picture else (slot_at old key).picture)) none in
      subst (λ l. IsPermutation (pictures_held l) (option_to_list picture ++ pictures_held old)) (sym is)
      (subst (λ l. IsPermutation (pictures_held (slice_set old key slot)) (l ++ pictures_held old)) brings
      (subst (λ l. IsPermutation (l ++ pictures_held (slice_set old key slot)) (held_of slot ++ pictures_held old))
      (held_unused (slot_at old key) none) (set_held old key slot within)))

  still_by : (b : Bool) (uses : ℕ) (picture own : Option P) → b ≡ (uses == 0) → 0 < uses → (if b then picture else own) ≡ own
  still_by true uses picture own is used = absurd (omega (arith, used, eqb-true uses 0 (sym is)))
  still_by false uses picture own is used = refl

  other_by : (b : Bool) (uses : ℕ) (own : Option P) → b ≡ (uses == 1) → (uses ≡ 1 → ⊥) → (if b then own else None) ≡ None
  other_by true uses own is not = absurd (not (eqb-true uses 1 (sym is)))
  other_by false uses own is not = refl

  -- and one in use keeps its own
  pub more_up : (old new : List (Slot P)) (key : ℕ) (picture : Option P) → 0 < uses_at old key
      → new ≡ slice_set old key (taken_up (slot_at old key) picture)
      → pictures_held new ≡ pictures_held old
  more_up old new key picture used is =
      let slot : Slot P = taken_up (slot_at old key) picture in
      ap pictures_held is
      ∙ set_same old key slot (used_within old key used)
      (held_used slot (omega arith)
      ∙ (ap option_to_list (still_by (uses_at old key == 0) (uses_at old key) picture (slot_at old key).picture refl used)
      ∙ sym (held_used (slot_at old key) used)))

  -- one unit less uses a key: the picture of one that goes out of use is given back
  pub gone_held : (old new : List (Slot P)) (key uses : ℕ) (result : Option P) → uses_at old key ≡ uses + 1
      → new ≡ slice_set old key (record { uses = uses; picture = (slot_at old key).picture })
      → result ≡ (if uses_at old key == 1 then (slot_at old key).picture else None)
      → IsPermutation (option_to_list result ++ pictures_held new) (pictures_held old)
  gone_held old new key zero result more is given =
      let own : Option P = (slot_at old key).picture in
      let slot : Slot P = record { uses = 0; picture = own } in
      let used : 0 < uses_at old key = omega (arith, more) in
      let one : uses_at old key ≡ 1 = omega (arith, more) in
      let same : option_to_list result ≡ held_of (slot_at old key) =
      ap option_to_list (given ∙ ap (λ (n : ℕ). if n == 1 then own else None) one) ∙ sym (held_used (slot_at old key) used) in
      subst (λ l. IsPermutation (option_to_list result ++ pictures_held l) (pictures_held old)) (sym is)
      (subst (λ l. IsPermutation (l ++ pictures_held (slice_set old key slot)) (pictures_held old)) (sym same)
      (subst (λ l. IsPermutation (held_of (slot_at old key) ++ pictures_held (slice_set old key slot)) (l ++ pictures_held old))
      (held_unused slot refl) (set_held old key slot (used_within old key used))))
  gone_held old new key (suc uses) result more is given =
      let own : Option P = (slot_at old key).picture in
      let slot : Slot P = record { uses = suc uses; picture = own } in
      let used : 0 < uses_at old key = omega (arith, more) in
      let none : result ≡ None =
      given ∙ other_by (uses_at old key == 1) (uses_at old key) own refl (λ one. absurd (omega (arith, one, more))) in
      let stay : pictures_held new ≡ pictures_held old =
      ap pictures_held is
      ∙ set_same old key slot (used_within old key used)
      (held_used slot (omega arith) ∙ sym (held_used (slot_at old key) used)) in
      subst (λ l. IsPermutation (option_to_list l ++ pictures_held new) (pictures_held old)) (sym none)
      (subst (λ l. IsPermutation l (pictures_held old)) (sym stay) (IsPermutation-refl (pictures_held old)))
