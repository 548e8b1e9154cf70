-- Texts that grow piece by piece.
use Rattle.std.proofs.Common.{◌≡◌, ◌∙◌, ℕ, ◌+◌, ◌<◌, List, [], ◌∷◌, ◌++◌, length, take, get_or, ap, sym, append_assoc, arith}
use Rattle.std.proofs.lemmas.List.{append-nil, length-take, take_more}
use Rattle.std.specs.Prelude.{OnOk, Result, Ok, Err}
use Rattle.stream_svg.specs.Texts.{Grows, texts_from, texts_of}

-- by nothing
pub nothing : (text : List ℕ) → Grows text text []
nothing text = record { by = sym (append-nil text) }

-- by a piece, and by what comes after it
pub more : {a b c x y : List ℕ} → Grows a b x → Grows b c y → Grows a c (x ++ y)
more {a} {b} {c} {x} {y} first next = record { by = next.by ∙ ap (λ l. l ++ y) first.by ∙ append_assoc a x y }

-- where the last piece may fail
pub more_ok : {a b x : List ℕ} {V F : Type 0} (c y : List ℕ) (result : Result V F) → Grows a b x → OnOk result (Grows b c y)
    → OnOk result (Grows a c (x ++ y))
more_ok c y (Ok value) first next = more first next
more_ok c y (Err fault) first next = tt

-- by the same piece
pub as_well : {a b x y : List ℕ} → x ≡ y → Grows a b x → Grows a b y
as_well e grows = rw e at grows

-- a text that was empty is what it grew by
pub all_of : {a b x : List ℕ} → a ≡ [] → Grows a b x → b ≡ x
all_of {a} {b} {x} none grows = grows.by ∙ ap (λ l. l ++ x) none

module _ {X : Type 0} (text : ℕ → X → List ℕ) where
  -- one item more has one text more
  from-push : (first : ℕ) (items : List X) (item : X)
      → texts_from text first (items ++ item ∷ []) ≡ texts_from text first items ++ text (first + length items) item
  from-push first [] item =
      append-nil (text first item) ∙ ap (λ (n : ℕ). text n item) (omega arith)
  from-push first (head ∷ items) item =
      let next : (first + 1) + length items ≡ first + length (head ∷ items) = omega arith in
      ap (λ l. text first head ++ l) (from-push (first + 1) items item)
      ∙ sym (append_assoc (text first head) (texts_from text (first + 1) items) (text ((first + 1) + length items) item))
      ∙ ap (λ (n : ℕ). (text first head ++ texts_from text (first + 1) items) ++ text n item) next

  -- the texts of the items up to a place, and that of the one there
  pub texts-more : (items : List X) (place : ℕ) (item : X) → place < length items → item ≡ get_or items place item
      → texts_of text (take (place + 1) items) ≡ texts_of text (take place items) ++ text place item
  texts-more items place item here is =
      let before = take place items in
      let at : 0 + length before ≡ place = omega (arith, here, length-take place items) in
      ap (texts_of text) (take_more items place item here ∙ ap (λ (x : X). before ++ x ∷ []) (sym is))
      ∙ from-push 0 before item ∙ ap (λ (n : ℕ). texts_of text before ++ text n item) at

  -- and the texts grow by it
  pub texts-next : (items : List X) (place : ℕ) (item : X) (a b c : List ℕ) → place < length items → item ≡ get_or items place item
      → Grows a b (texts_of text (take place items)) → Grows b c (text place item)
      → Grows a c (texts_of text (take (place + 1) items))
  texts-next items place item a b c here is first next = as_well (sym (texts-more items place item here is)) (more first next)

  -- so they do where the place is counted beside
  pub texts-at : (items : List X) (at place : ℕ) (d : X) (a b c : List ℕ) → at < length items → place ≡ at
      → Grows a b (texts_of text (take at items)) → Grows b c (text place (get_or items at d))
      → Grows a c (texts_of text (take (at + 1) items))
  texts-at items at place d a b c here same first next =
      let before = take at items in
      let item = get_or items at d in
      let long : 0 + length before ≡ place = omega (arith, here, same, length-take at items) in
      let longer : texts_of text (take (at + 1) items) ≡ texts_of text before ++ text place item =
      ap (texts_of text) (take_more items at d here) ∙ from-push 0 before item
      ∙ ap (λ (n : ℕ). texts_of text before ++ text n item) long in
      as_well (sym longer) (more first next)
