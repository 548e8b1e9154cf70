-- What is kept of the units of a snapshot.
use Rattle.std.proofs.Common.{◌≡◌, ℕ, zero, suc, List, [], ◌∷◌, ◌++◌, length, map, drop, refl, sym, ap, ◌∙◌, append_assoc, length-append, arith}
use Rattle.std.proofs.lemmas.List.{map-append}
use Rattle.edit_journal.specs.declared.line.Line.{Line}
use Rattle.edit_journal.specs.declared.line.RowStep.{RowStep}
use Rattle.session_journal.specs.RecordRows.{row_of_unit}
use Rattle.session_journal.specs.Records.{rows_in}

-- one unit more is kept
pub keep_unit : (kept : List RowStep) (k : RowStep) (unit : ℕ × List ℕ) (rest left : List (ℕ × List ℕ)) (all : List RowStep) → left ≡ unit ∷ rest → k ≡ row_of_unit unit
    → kept ++ map row_of_unit left ≡ all → (kept ++ k ∷ []) ++ map row_of_unit rest ≡ all
keep_unit kept k unit rest left all is_left is_k is =
    append_assoc kept (k ∷ []) (map row_of_unit rest) ∙ ap (λ (x : RowStep). kept ++ x ∷ map row_of_unit rest) is_k ∙ ap (λ (l : List (ℕ × List ℕ)). kept ++ map row_of_unit l) (sym is_left) ∙ is

-- one unit more is read
pub read_unit : (units : List (ℕ × List ℕ)) (unit : ℕ × List ℕ) (k : RowStep) (left all_left all : List RowStep) → all_left ≡ k ∷ left → k ≡ row_of_unit unit
    → all ≡ map row_of_unit units ++ all_left → all ≡ map row_of_unit (units ++ unit ∷ []) ++ left
read_unit units unit k left all_left all is_left is_k is =
    is ∙ ap (λ (l : List RowStep). map row_of_unit units ++ l) (is_left ∙ ap (λ (x : RowStep). x ∷ left) is_k) ∙ sym (append_assoc (map row_of_unit units) (row_of_unit unit ∷ []) left)
    ∙ ap (λ (l : List RowStep). l ++ left) (sym (map-append row_of_unit units (unit ∷ [])))

pair_same : (one other : ℕ × List ℕ) → row_of_unit one ≡ row_of_unit other → one ≡ other
pair_same (id, text) (other_id, other_text) is = let is_id : id ≡ other_id = ap (λ (k : RowStep). k.id) is in let is_text : text ≡ other_text = ap (λ (k : RowStep). k.text) is in cc

-- what is kept of units tells which they are
pub units_same : (one other : List (ℕ × List ℕ)) → map row_of_unit one ≡ map row_of_unit other → one ≡ other
units_same [] [] is = refl
units_same [] (unit ∷ other) is = absurd (cc)
units_same (unit ∷ one) [] is = absurd (cc)
units_same (unit ∷ one) (other_unit ∷ other) is =
    let first : unit ≡ other_unit = pair_same unit other_unit (cc) in
    let more : one ≡ other = units_same one other (cc) in
    cc

-- each line of units keeps one
pub no_unit : (lines more : List Line) (units : List (ℕ × List ℕ)) (i : ℕ) (line : Line) → rows_in lines ≡ map row_of_unit units → drop i lines ≡ line ∷ more
    → ((unit : ℕ × List ℕ) → line.step ≡ row_of_unit unit → ⊥) → ⊥
no_unit [] more units zero line is left none = cc
no_unit [] more units (suc i) line is left none = cc
no_unit (first ∷ lines) more [] i line is left none = cc
no_unit (first ∷ lines) more (unit ∷ units) zero line is left none = none unit (cc)
no_unit (first ∷ lines) more (unit ∷ units) (suc i) line is left none = no_unit lines more units i line (cc) left none

-- lists that end alike are alike, and so are their ends
pub same_front : {X : Type 0} (xs ys : List X) (x y : X) → xs ++ x ∷ [] ≡ ys ++ y ∷ [] → (xs ≡ ys) × (x ≡ y)
same_front [] [] x y is = (refl, cc)
same_front [] (b ∷ ys) x y is =
    let long : length (x ∷ []) ≡ length (b ∷ (ys ++ y ∷ [])) = ap length is in absurd (omega (arith, long, length-append ys (y ∷ [])))
same_front (a ∷ xs) [] x y is =
    let long : length (a ∷ (xs ++ x ∷ [])) ≡ length (y ∷ []) = ap length is in absurd (omega (arith, long, length-append xs (x ∷ [])))
same_front (a ∷ xs) (b ∷ ys) x y is =
    let first : a ≡ b = cc in
    let more = same_front xs ys x y (cc) in
    let front : xs ≡ ys = more.0 in
    (cc, more.1)

-- what a line keeps behind others
pub kept_then : (front : List Line) (last : Line) (lines : List Line) → lines ≡ front ++ last ∷ [] → rows_in lines ≡ rows_in front ++ last.step ∷ []
kept_then front last lines is = ap rows_in is ∙ map-append (λ (line : Line). line.step) front (last ∷ [])
