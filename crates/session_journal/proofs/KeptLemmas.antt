-- What is kept of edits, one after the other.
use Rattle.std.proofs.Common.{◌≡◌, ℕ, ◌+◌, ◌<◌, ◌≤◌, List, [], ◌∷◌, ◌++◌, length, drop, get_or, take, refl, sym, ap, subst, ◌∙◌, append_assoc, arith}
use Rattle.std.proofs.lemmas.List.{drop_more, take_more}
use Rattle.std.specs.List.{AllByRecursion}
use Rattle.stream_edits.specs.declared.edits.Edit.{Edit}
use Rattle.stream_edits.specs.declared.edits.Edit.TheVariants.{Insert, Delete, Replace}
use Rattle.edit_journal.specs.declared.line.RowStep.{RowStep}
use Rattle.session_journal.specs.RecordRows.{given_after, given_after_edits, row_of, rows_of_edits}

-- what is left at an item
pub drop_item : {X : Type 0} (xs : List X) (i : ℕ) (x : X) → i < length xs → x ≡ get_or xs i x → drop i xs ≡ x ∷ drop (i + 1) xs
drop_item {X} xs i x less is = drop_more xs i x less ∙ ap (λ (y : X). y ∷ drop (i + 1) xs) (sym is)

-- one item more
pub take_item : {X : Type 0} (xs : List X) (i : ℕ) (x : X) → i < length xs → x ≡ get_or xs i x → take (i + 1) xs ≡ take i xs ++ x ∷ []
take_item {X} xs i x less is = take_more xs i x less ∙ ap (λ (y : X). take i xs ++ y ∷ []) (sym is)

-- an edit takes back no id
pub grows_by : (given : ℕ) (edit : Edit) → given ≤ given_after given edit
grows_by given (Insert place text) = omega arith
grows_by given (Delete id) = omega arith
grows_by given (Replace id text) = omega arith

pub grows : (given : ℕ) (edits : List Edit) → given ≤ given_after_edits given edits
grows given [] = omega arith
grows given (edit ∷ edits) = omega (arith, grows_by given edit, grows (given_after given edit) edits)

-- one edit more is kept
pub keep_more : (kept : List RowStep) (k : RowStep) (after more : ℕ) (edit : Edit) (rest left : List Edit) (all : List RowStep) → left ≡ edit ∷ rest → more ≡ given_after after edit → k ≡ row_of after edit
    → kept ++ rows_of_edits after left ≡ all → (kept ++ k ∷ []) ++ rows_of_edits more rest ≡ all
keep_more kept k after more edit rest left all is_left is_more is_k is =
    append_assoc kept (k ∷ []) (rows_of_edits more rest) ∙ rw (is_k, is_more) (subst (λ (l : List Edit). kept ++ rows_of_edits after l ≡ all) is_left is)

-- and its ids are counted
pub given_more : (after more : ℕ) (edit : Edit) (rest left : List Edit) (all : ℕ) → left ≡ edit ∷ rest → more ≡ given_after after edit → given_after_edits after left ≡ all → given_after_edits more rest ≡ all
given_more after more edit rest left all is_left is_more is = rw is_more (subst (λ (l : List Edit). given_after_edits after l ≡ all) is_left is)

pub kept_then : (given : ℕ) (edits : List Edit) (edit : Edit) → rows_of_edits given (edits ++ edit ∷ []) ≡ rows_of_edits given edits ++ row_of (given_after_edits given edits) edit ∷ []
kept_then given [] edit = refl
kept_then given (first ∷ edits) edit = ap (λ more. row_of given first ∷ more) (kept_then (given_after given first) edits edit)

pub after_then : (given : ℕ) (edits : List Edit) (edit : Edit) → given_after_edits given (edits ++ edit ∷ []) ≡ given_after (given_after_edits given edits) edit
after_then given [] edit = refl
after_then given (first ∷ edits) edit = after_then (given_after given first) edits edit

pub all_then : {X : Type 0} (P : X → Type 0) (xs : List X) (x : X) → AllByRecursion P xs → P x → AllByRecursion P (xs ++ x ∷ [])
all_then P [] x all p = (p, tt)
all_then P (first ∷ xs) x all p = (all.0, all_then P xs x all.1 p)

-- one edit more is read
pub kept_read : (given after : ℕ) (edits : List Edit) (edit : Edit) (k : RowStep) (left all_left all : List RowStep) → all_left ≡ k ∷ left → k ≡ row_of after edit → after ≡ given_after_edits given edits
    → all ≡ rows_of_edits given edits ++ all_left → all ≡ rows_of_edits given (edits ++ edit ∷ []) ++ left
kept_read given after edits edit k left all_left all is_left is_k is_after is =
    let whole : rows_of_edits given edits ++ all_left ≡ rows_of_edits given edits ++ (row_of (given_after_edits given edits) edit ∷ left) =
    ap (λ (l : List RowStep). rows_of_edits given edits ++ l) (is_left ∙ ap (λ (x : RowStep). x ∷ left) (is_k ∙ ap (λ (n : ℕ). row_of n edit) is_after)) in
    is ∙ whole ∙ sym (append_assoc (rows_of_edits given edits) (row_of (given_after_edits given edits) edit ∷ []) left) ∙ ap (λ (l : List RowStep). l ++ left) (sym (kept_then given edits edit))
