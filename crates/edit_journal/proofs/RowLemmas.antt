-- Rows of lines, one more and one less.
use Rattle.std.proofs.Common.{◌≡◌, ℕ, zero, suc, ◌+◌, ◌-◌, ◌<◌, ◌≤◌, List, [], ◌∷◌, ◌++◌, length, take, drop, min, pos, ◌==◌, if◌then◌else◌, refl, sym, ap, ◌∙◌, arith, Less, Greater, Equal}
use Rattle.std.proofs.Math.Seq.{take-append-add}
use Rattle.std.proofs.lemmas.Bool.Decides.{nat_tests}
use Rattle.std.proofs.lemmas.List.{append-nil, length-append, take_min}
use Rattle.std.specs.Ordering.{int_cmp}
use Rattle.sqlite_value.specs.declared.value.Value.{Value}
use Rattle.sqlite_value.specs.Order.{Row, column}
use Rattle.sqlite_value.proofs.OrderLemmas.{value_cmp-Int}
use Rattle.sqlite_value.specs.declared.keys.Order.{Order}
use Rattle.sqlite_trees.specs.Tree.{put_row, without_rowid, from_key}
use Rattle.edit_journal.specs.declared.line.Line.{Line}
use Rattle.edit_journal.specs.declared.line.RowStep.{RowStep}
use Rattle.edit_journal.specs.declared.line.Kind.{Kind}
use Rattle.edit_journal.specs.declared.line.Kind.TheVariants.{InsertFirst, Insert, Delete, Replace, Unit as UnitKind, Given, Load}
use Rattle.edit_journal.specs.Lines.{row_of, rows_from, lines_from, lines_of, name_of}

-- a row of seven columns is the list of them
pub seven : (row : Row) (a b d e f g h : Value) → length row ≡ 7 → column row 0 ≡ a → column row 1 ≡ b → column row 2 ≡ d → column row 3 ≡ e → column row 4 ≡ f
    → column row 5 ≡ g → column row 6 ≡ h → row ≡ a ∷ b ∷ d ∷ e ∷ f ∷ g ∷ h ∷ []
seven (x0 ∷ x1 ∷ x2 ∷ x3 ∷ x4 ∷ x5 ∷ x6 ∷ []) a b d e f g h long p0 p1 p2 p3 p4 p5 p6 = rw (← p0, ← p1, ← p2, ← p3, ← p4, ← p5, ← p6) refl
seven [] a b d e f g h long _ _ _ _ _ _ _ = absurd (omega arith)
seven (x0 ∷ []) a b d e f g h long _ _ _ _ _ _ _ = absurd (omega arith)
seven (x0 ∷ x1 ∷ []) a b d e f g h long _ _ _ _ _ _ _ = absurd (omega arith)
seven (x0 ∷ x1 ∷ x2 ∷ []) a b d e f g h long _ _ _ _ _ _ _ = absurd (omega arith)
seven (x0 ∷ x1 ∷ x2 ∷ x3 ∷ []) a b d e f g h long _ _ _ _ _ _ _ = absurd (omega arith)
seven (x0 ∷ x1 ∷ x2 ∷ x3 ∷ x4 ∷ []) a b d e f g h long _ _ _ _ _ _ _ = absurd (omega arith)
seven (x0 ∷ x1 ∷ x2 ∷ x3 ∷ x4 ∷ x5 ∷ []) a b d e f g h long _ _ _ _ _ _ _ = absurd (omega arith)
seven (x0 ∷ x1 ∷ x2 ∷ x3 ∷ x4 ∷ x5 ∷ x6 ∷ x7 ∷ more) a b d e f g h long _ _ _ _ _ _ _ = absurd (omega arith)

below : (m n : ℕ) → m < n → int_cmp (pos m) (pos n) ≡ Less
below m n less = grind (arith, nat_tests)

above : (m n : ℕ) → n < m → int_cmp (pos m) (pos n) ≡ Greater
above m n less = grind (arith, nat_tests)

level : (n : ℕ) → int_cmp (pos n) (pos n) ≡ Equal
level n = grind (arith, nat_tests)

-- a row that is written under the next number stands behind the others
pub put_last : (number : ℕ) (lines : List Line) (line : Line) (at : ℕ) → at ≡ number + length lines → put_row (row_of at line) (rows_from number lines) ≡ rows_from number (lines ++ line ∷ [])
put_last number [] line at is = let first : at ≡ number = omega (arith, is) in rw first refl
put_last number (first ∷ lines) line at is =
    rw (value_cmp-Int (pos number) (pos at), below number at (omega arith)) (ap (λ rows. row_of number first ∷ rows) (put_last (number + 1) lines line at (omega arith)))

keeps_later : (number : ℕ) (lines : List Line) (deleted : ℕ) → deleted < number → without_rowid (pos deleted) (rows_from number lines) ≡ rows_from number lines
keeps_later number [] deleted less = refl
keeps_later number (line ∷ lines) deleted less =
    rw (value_cmp-Int (pos number) (pos deleted), above number deleted less) (ap (λ rows. row_of number line ∷ rows) (keeps_later (number + 1) lines deleted (omega arith)))

without_first : (number : ℕ) (line : Line) (lines : List Line) → without_rowid (pos number) (rows_from number (line ∷ lines)) ≡ rows_from (number + 1) lines
without_first number line lines = rw (value_cmp-Int (pos number) (pos number), level number) (keeps_later (number + 1) lines number (omega arith))

-- the first row is deleted of those behind a front
pub without_next : (number : ℕ) (front : List Line) (at : ℕ) (lines : List Line) → number + length front ≤ at
    → without_rowid (pos at) (rows_from number front ++ rows_from at lines) ≡ rows_from number front ++ rows_from (at + 1) (drop 1 lines)
without_next number [] at [] less = refl
without_next number [] at (line ∷ lines) less = without_first at line lines
without_next number (first ∷ front) at lines less =
    rw (value_cmp-Int (pos number) (pos at), below number at (omega arith)) (ap (λ rows. row_of number first ∷ rows) (without_next (number + 1) front at lines (omega arith)))

-- rows are those of a front, and those behind it
pub rows_split : (number left : ℕ) (lines : List Line) (at : ℕ) → at ≡ number + left → rows_from number lines ≡ rows_from number (take left lines) ++ rows_from at (drop left lines)
rows_split number zero lines at is = let first : at ≡ number = omega (arith, is) in rw first refl
rows_split number (suc left) [] at is = refl
rows_split number (suc left) (line ∷ lines) at is = ap (λ rows. row_of number line ∷ rows) (rows_split (number + 1) left lines at (omega arith))

-- one row more
pub rows_then : (number : ℕ) (lines : List Line) (line : Line) (more : List Row) (at : ℕ) → at ≡ number + length lines
    → rows_from number lines ++ row_of at line ∷ more ≡ rows_from number (lines ++ line ∷ []) ++ more
rows_then number [] line more at is = let first : at ≡ number = omega (arith, is) in rw first refl
rows_then number (first ∷ lines) line more at is = ap (λ rows. row_of number first ∷ rows) (rows_then (number + 1) lines line more at (omega arith))

-- one line more
pub lines_then : (entry place : ℕ) (steps : List RowStep) (step : RowStep) (at : ℕ) → at ≡ place + length steps
    → lines_from entry place (steps ++ step ∷ []) ≡ lines_from entry place steps ++ (record { entry = entry; place = at; step = step }) ∷ []
lines_then entry place [] step at is = let first : at ≡ place = omega (arith, is) in rw first refl
lines_then entry place (first ∷ steps) step at is = ap (λ lines. (record { entry = entry; place = place; step = first }) ∷ lines) (lines_then entry (place + 1) steps step at (omega arith))

-- as many lines as steps
pub length-lines_from : (entry place : ℕ) (steps : List RowStep) → length (lines_from entry place steps) ≡ length steps
length-lines_from entry place [] = refl
length-lines_from entry place (step ∷ steps) = omega (arith, length-lines_from entry (place + 1) steps)

take-lines_from : (n entry place : ℕ) (steps : List RowStep) → take n (lines_from entry place steps) ≡ lines_from entry place (take n steps)
take-lines_from zero entry place steps = refl
take-lines_from (suc n) entry place [] = refl
take-lines_from (suc n) entry place (step ∷ steps) = ap (λ lines. (record { entry = entry; place = place; step = step }) ∷ lines) (take-lines_from n entry (place + 1) steps)

-- of the lines whose last record has so many steps, its first ones are left
pub take_record : (lines : List Line) (entry : ℕ) (steps : List RowStep) (rows left count kept : ℕ) → rows ≡ length (lines ++ lines_of entry steps) → count ≡ length steps → left + (count - kept) ≡ rows
    → take left (lines ++ lines_of entry steps) ++ [] ≡ lines ++ lines_of entry (take kept steps)
take_record lines entry steps rows left count kept all long is =
    let at : left ≡ length lines + min kept (length steps) = omega (arith, length-append lines (lines_of entry steps), length-lines_from entry 0 steps) in
    append-nil (take left (lines ++ lines_of entry steps)) ∙ ap (λ (m : ℕ). take m (lines ++ lines_of entry steps)) at ∙ take-append-add lines (lines_of entry steps) (min kept (length steps))
    ∙ ap (λ (more : List Line). lines ++ more) (take-lines_from (min kept (length steps)) entry 0 steps ∙ ap (lines_of entry) (take_min kept steps))

-- with no key, a cursor has all rows
pub from_no_key : (o : Order) (rows : List Row) → from_key o [] rows ≡ rows
from_no_key o [] = refl
from_no_key o (row ∷ rows) = refl

abbrev kind_in : List ℕ → Kind
kind_in [] = Insert
kind_in (letter ∷ word) = if letter == 105 then (if length word == 5 then Insert else InsertFirst) else (if letter == 100 then Delete else (if letter == 114 then Replace else (if letter == 117 then UnitKind else (if letter == 108 then Load else Given))))

kind_named : (kind : Kind) → kind_in (name_of kind) ≡ kind
kind_named InsertFirst = refl
kind_named Insert = refl
kind_named Delete = refl
kind_named Replace = refl
kind_named UnitKind = refl
kind_named Given = refl
kind_named Load = refl

line_is : (a b : Line) → a.entry ≡ b.entry → a.place ≡ b.place → a.step.kind ≡ b.step.kind → a.step.id ≡ b.step.id → a.step.named ≡ b.step.named → a.step.text ≡ b.step.text → a ≡ b
line_is a b entry place kind id named text =
    let all : ◌≡◌ {A = Line} (record { entry = a.entry; place = a.place; step = record { kind = a.step.kind; id = a.step.id; named = a.step.named; text = a.step.text } })
    (record { entry = b.entry; place = b.place; step = record { kind = b.step.kind; id = b.step.id; named = b.step.named; text = b.step.text } }) =
    rw (entry, place, kind, id, named, text) refl in
    all

row_is : (number : ℕ) (a b : Line) → row_of number a ≡ row_of number b → a ≡ b
row_is number a b same =
    let word : name_of a.step.kind ≡ name_of b.step.kind = cc in
    line_is a b (cc) (cc) (sym (kind_named a.step.kind) ∙ ap kind_in word ∙ kind_named b.step.kind) (cc) (cc) (cc)

-- the lines are known by their rows
pub rows_are : (number : ℕ) (a b : List Line) → rows_from number a ≡ rows_from number b → a ≡ b
rows_are number [] [] same = refl
rows_are number [] (y ∷ b) same = absurd (cc)
rows_are number (x ∷ a) [] same = absurd (cc)
rows_are number (x ∷ a) (y ∷ b) same =
    let first : row_of number x ≡ row_of number y = cc in
    let others : rows_from (number + 1) a ≡ rows_from (number + 1) b = cc in
    let line = row_is number x y first in
    let lines = rows_are (number + 1) a b others in
    cc
