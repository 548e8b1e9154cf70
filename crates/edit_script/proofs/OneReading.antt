-- A script's lines are read in one way.
use Rattle.std.proofs.Common.{◌≡◌, ℕ, true, List, [], ◌∷◌, ◌++◌, ◌⊎◌, inl, inr, refl, sym, ◌∙◌, ap, append_assoc, map}
use Rattle.std.specs.Prelude.{Option, Some, None, codes}
use Rattle.std.proofs.lemmas.Slice.Eq.{bytes_eq-Decides}
use Rattle.stream_edits.specs.declared.edits.Edit.{Edit}
use Rattle.edit_script.specs.declared.commands.Command.{Command}
use Rattle.edit_script.specs.declared.commands.Command.TheVariants as command
use Rattle.edit_script.specs.Words.{words_of}
use Rattle.edit_script.specs.Commands.{IsCommand, are_alone, edit_of}
use Rattle.edit_script.specs.Scripts.{AreCommand, AreEdits, AreRead, IsEditLine, IsEndLine, IsGroupLine, IsLine, IsWrongAt}

-- a line with its number
abbrev pub Numbered : Type 0
Numbered = ℕ × List ℕ

-- two lists that are the same begin with the same line
pub same-first : {x y : Numbered} {xs ys : List Numbered} → x ∷ xs ≡ y ∷ ys → (x.0 ≡ y.0) × (x.1 ≡ y.1) × (xs ≡ ys)
same-first {x} {y} {xs} {ys} e =
    let first : x ≡ y = cc in (ap (λ (it : Numbered). it.0) first, ap (λ (it : Numbered). it.1) first, (cc))

-- words that are one alone are that one
pub lone-is : (word : List ℕ) (words : List (List ℕ)) → are_alone word words ≡ true → words ≡ word ∷ []
lone-is word [] e = absurd (cc)
lone-is word (only ∷ []) e = ap (λ it. it ∷ []) ((bytes_eq-Decides only word).0 e)
lone-is word (first ∷ second ∷ words) e = absurd (cc)

-- `group` alone is no command
pub group-no-command : (it : Command) → ¬ IsCommand (codes "group" ∷ []) it
group-no-command (command.Edit edit) is = absurd (cc)
group-no-command (command.Group edits) is = is
group-no-command (command.Load path) is = absurd (cc)
group-no-command (command.Unit number) is = absurd (cc)
group-no-command (command.Json number) is = absurd (cc)
group-no-command command.Take is = absurd (cc)
group-no-command (command.TakeFor number) is = absurd (cc)
group-no-command (command.Land number) is = absurd (cc)
group-no-command (command.GiveBack number) is = absurd (cc)
group-no-command command.Settle is = absurd (cc)
group-no-command (command.SettleFor number) is = absurd (cc)
group-no-command (command.Show number) is = absurd (cc)
group-no-command (command.Drop number) is = absurd (cc)
group-no-command command.Clear is = absurd (cc)
group-no-command command.Mark is = absurd (cc)
group-no-command (command.Altered number) is = absurd (cc)
group-no-command (command.Want ids) is = absurd (cc)
group-no-command (command.Rest rest) is = absurd (cc)

-- a line that is a command begins no group
pub no-group : (line : List ℕ) (it : Command) → IsLine line it → ¬ IsGroupLine line
no-group line it is group =
    group-no-command it (rw (lone-is (codes "group") (words_of line) group.1) at is.1)

-- `end` alone is no edit
pub end-no-edit : (edit : Edit) → ¬ (edit_of (codes "end" ∷ []) ≡ Some edit)
end-no-edit edit is = absurd (cc)

-- a line that ends a group is no edit
pub no-edit : (line : List ℕ) → IsEndLine line → (edit : Edit) → ¬ IsEditLine line edit
no-edit line end edit is =
    end-no-edit edit (rw (lone-is (codes "end") (words_of line) end.1) at is.1)

-- no line is behind the edits that is none
pub only-edits : (lines : List Numbered) (edits : List Edit) (line : Numbered) (after : List Numbered)
    → AreEdits (lines ++ line ∷ after) edits → ¬ ((edit : Edit) → ¬ IsEditLine line.1 edit)
only-edits [] [] line after all none = all
only-edits [] (edit ∷ edits) line after all none = none edit all.0
only-edits (first ∷ lines) [] line after all none = all
only-edits (first ∷ lines) (edit ∷ edits) line after all none = only-edits lines edits line after all.1 none

-- the edits before a line that is none are the same, and so is what is behind
pub same-edits : (lines others : List Numbered) (edits more : List Edit) (line other : Numbered) (after behind : List Numbered)
    → AreEdits lines edits → AreEdits others more
    → ((edit : Edit) → ¬ IsEditLine line.1 edit) → ((edit : Edit) → ¬ IsEditLine other.1 edit)
    → lines ++ line ∷ after ≡ others ++ other ∷ behind → (line ≡ other) × (after ≡ behind)
same-edits [] [] edits more line other after behind a b none neither e = ((cc), (cc))
same-edits [] (first ∷ others) edits [] line other after behind a b none neither e = absurd b
same-edits [] (first ∷ others) edits (edit ∷ more) line other after behind a b none neither e =
    let same : first ≡ line = cc in absurd (none edit (rw same at b.0))
same-edits (first ∷ lines) [] [] more line other after behind a b none neither e = absurd a
same-edits (first ∷ lines) [] (edit ∷ edits) more line other after behind a b none neither e =
    let same : first ≡ other = cc in absurd (neither edit (rw same at a.0))
same-edits (first ∷ lines) (second ∷ others) [] more line other after behind a b none neither e = absurd a
same-edits (first ∷ lines) (second ∷ others) (edit ∷ edits) [] line other after behind a b none neither e = absurd b
same-edits (first ∷ lines) (second ∷ others) (edit ∷ edits) (one ∷ more) line other after behind a b none neither e =
    same-edits lines others edits more line other after behind a.1 b.1 none neither (cc)

-- the lines begin with a command alone, behind which the rest stands
pub record Alone (lines : List Numbered) (number : ℕ) (rest : List Numbered) : Type 0 where
  pub line : List ℕ
  pub command : Command
  pub are : lines ≡ (number, line) ∷ rest
  pub is : IsLine line command

-- the lines begin with a group, behind which the rest stands
pub record Closed (lines : List Numbered) (number : ℕ) (rest : List Numbered) : Type 0 where
  pub first : List ℕ
  pub inside : List Numbered
  pub edits : List Edit
  pub last : Numbered
  pub are : lines ≡ (number, first) ∷ (inside ++ last ∷ rest)
  pub begins : IsGroupLine first
  pub edited : AreEdits inside edits
  pub ends : IsEndLine last.1

-- the lines begin with a command
abbrev pub Begins : List Numbered → ℕ → List Numbered → Type 0
Begins lines number rest = Alone lines number rest ⊎ Closed lines number rest

-- they do where they are a command and the rest
pub begins : (lines front rest : List Numbered) (number : ℕ) (it : Command) → lines ≡ front ++ rest
    → AreCommand front number it → Begins lines number rest
begins lines front rest number it e (inl line) =
    inl (record { line = line.0; command = it; are = e ∙ ap (λ xs. xs ++ rest) line.1; is = line.2 })
begins lines front rest number it e (inr group) =
    let group' = group.2 in
    inr (record {
      first = group'.first;
      inside = group'.inside;
      edits = group.0.items;
      last = group'.last;
      are = e ∙ ap (λ xs. xs ++ rest) group'.are
          ∙ ap (λ xs. (number, group'.first) ∷ xs) (append_assoc group'.inside (group'.last ∷ []) rest);
      begins = group'.begins;
      edited = group'.edited;
      ends = group'.ends;
    })

-- two beginnings are the same
pub same-beginning : (lines : List Numbered) (n m : ℕ) (rest other : List Numbered) → Begins lines n rest
    → Begins lines m other → (n ≡ m) × (rest ≡ other)
same-beginning lines n m rest other (inl a) (inl b) =
    let e = same-first (sym a.are ∙ b.are) in (e.0, e.2)
same-beginning lines n m rest other (inl a) (inr b) =
    let e = same-first (sym a.are ∙ b.are) in
    absurd (no-group a.line a.command a.is (rw (← e.1) at b.begins))
same-beginning lines n m rest other (inr a) (inl b) =
    let e = same-first (sym a.are ∙ b.are) in
    absurd (no-group b.line b.command b.is (rw e.1 at a.begins))
same-beginning lines n m rest other (inr a) (inr b) =
    let e = same-first (sym a.are ∙ b.are) in
    let inner : a.inside ++ a.last ∷ rest ≡ b.inside ++ b.last ∷ other = e.2 in
    let same = same-edits a.inside b.inside a.edits b.edits a.last b.last rest other a.edited b.edited
    (no-edit a.last.1 a.ends) (no-edit b.last.1 b.ends) inner in
    (e.0, same.1)

-- where a command begins, no line is to blame
pub not-wrong : (lines : List Numbered) (n m : ℕ) (rest : List Numbered) → Begins lines n rest → ¬ IsWrongAt lines m
not-wrong lines n m rest (inl a) (inl b) =
    let e = same-first (sym a.are ∙ b.are) in
    b.no_command a.command (rw e.1 at a.is)
not-wrong lines n m rest (inl a) (inr (inl b)) =
    let e = same-first (sym a.are ∙ b.are) in
    no-group a.line a.command a.is (rw (← e.1) at b.begins)
not-wrong lines n m rest (inl a) (inr (inr b)) =
    let e = same-first (sym a.are ∙ b.are) in
    no-group a.line a.command a.is (rw (← e.1) at b.begins)
not-wrong lines n m rest (inr a) (inl b) =
    let e = same-first (sym a.are ∙ b.are) in
    b.no_group (rw e.1 at a.begins)
not-wrong lines n m rest (inr a) (inr (inl b)) =
    let e = same-first (sym a.are ∙ b.are) in
    let inner : a.inside ++ a.last ∷ rest ≡ b.inside ++ (m, b.line) ∷ b.after = e.2 in
    let same = same-edits a.inside b.inside a.edits b.edits a.last (m, b.line) rest b.after a.edited b.edited
    (no-edit a.last.1 a.ends) b.no_edit inner in
    b.no_end (rw same.0 at a.ends)
not-wrong lines n m rest (inr a) (inr (inr b)) =
    let e = same-first (sym a.are ∙ b.are) in
    let inner : b.inside ≡ a.inside ++ a.last ∷ rest = sym e.2 in
    only-edits a.inside b.edits a.last rest (rw inner at b.edited) (no-edit a.last.1 a.ends)

-- one line is to blame
pub same-wrong : (lines : List Numbered) (n m : ℕ) → IsWrongAt lines n → IsWrongAt lines m → n ≡ m
same-wrong lines n m (inl a) (inl b) = (same-first (sym a.are ∙ b.are)).0
same-wrong lines n m (inl a) (inr (inl b)) =
    let e = same-first (sym a.are ∙ b.are) in
    absurd (a.no_group (rw (← e.1) at b.begins))
same-wrong lines n m (inl a) (inr (inr b)) =
    let e = same-first (sym a.are ∙ b.are) in
    absurd (a.no_group (rw (← e.1) at b.begins))
same-wrong lines n m (inr (inl a)) (inl b) =
    let e = same-first (sym a.are ∙ b.are) in
    absurd (b.no_group (rw e.1 at a.begins))
same-wrong lines n m (inr (inl a)) (inr (inl b)) =
    let e = same-first (sym a.are ∙ b.are) in
    let inner : a.inside ++ (n, a.line) ∷ a.after ≡ b.inside ++ (m, b.line) ∷ b.after = e.2 in
    let same = same-edits a.inside b.inside a.edits b.edits (n, a.line) (m, b.line) a.after b.after a.edited b.edited
    a.no_edit b.no_edit inner in
    ap (λ (it : Numbered). it.0) same.0
same-wrong lines n m (inr (inl a)) (inr (inr b)) =
    let e = same-first (sym a.are ∙ b.are) in
    let inner : b.inside ≡ a.inside ++ (n, a.line) ∷ a.after = sym e.2 in
    absurd (only-edits a.inside b.edits (n, a.line) a.after (rw inner at b.edited) a.no_edit)
same-wrong lines n m (inr (inr a)) (inl b) =
    let e = same-first (sym a.are ∙ b.are) in
    absurd (b.no_group (rw e.1 at a.begins))
same-wrong lines n m (inr (inr a)) (inr (inl b)) =
    let e = same-first (sym a.are ∙ b.are) in
    let inner : a.inside ≡ b.inside ++ (m, b.line) ∷ b.after = e.2 in
    absurd (only-edits b.inside a.edits (m, b.line) b.after (rw inner at a.edited) b.no_edit)
same-wrong lines n m (inr (inr a)) (inr (inr b)) = (same-first (sym a.are ∙ b.are)).0

-- where a command begins, there are lines
pub some-lines : (lines : List Numbered) (n : ℕ) (rest : List Numbered) → Begins lines n rest → ¬ (lines ≡ [])
some-lines lines n rest (inl a) none = let e = sym none ∙ a.are in cc
some-lines lines n rest (inr a) none = let e = sym none ∙ a.are in cc

-- where a line is to blame, too
pub some-wrong : (lines : List Numbered) (n : ℕ) → IsWrongAt lines n → ¬ (lines ≡ [])
some-wrong lines n (inl a) none = let e = sym none ∙ a.are in cc
some-wrong lines n (inr (inl a)) none = let e = sym none ∙ a.are in cc
some-wrong lines n (inr (inr a)) none = let e = sym none ∙ a.are in cc

-- two readings are the same
pub same-reading : (lines : List Numbered) (first second : List (ℕ × Command)) (wrong other : Option ℕ)
    → AreRead lines first wrong → AreRead lines second other
    → (map (λ it. it.0) first ≡ map (λ it. it.0) second) × (wrong ≡ other)
same-reading lines [] [] None None a b = (refl, refl)
same-reading lines [] [] None (Some m) a b = absurd (some-wrong lines m b a)
same-reading lines [] [] (Some n) None a b = absurd (some-wrong lines n a b)
same-reading lines [] [] (Some n) (Some m) a b = (refl, ap Some (same-wrong lines n m a b))
same-reading lines [] (it ∷ second) None other a b =
    absurd (some-lines lines it.0 b.1 (begins lines b.0 b.1 it.0 it.1 b.2 b.3) a)
same-reading lines [] (it ∷ second) (Some n) other a b =
    absurd (not-wrong lines it.0 n b.1 (begins lines b.0 b.1 it.0 it.1 b.2 b.3) a)
same-reading lines (it ∷ first) [] wrong None a b =
    absurd (some-lines lines it.0 a.1 (begins lines a.0 a.1 it.0 it.1 a.2 a.3) b)
same-reading lines (it ∷ first) [] wrong (Some m) a b =
    absurd (not-wrong lines it.0 m a.1 (begins lines a.0 a.1 it.0 it.1 a.2 a.3) b)
same-reading lines (it ∷ first) (that ∷ second) wrong other a b =
    let same = same-beginning lines it.0 that.0 a.1 b.1 (begins lines a.0 a.1 it.0 it.1 a.2 a.3)
    (begins lines b.0 b.1 that.0 that.1 b.2 b.3) in
    let rest = same-reading b.1 first second wrong other (rw same.1 at a.4) b.4 in
    (rw (same.0, rest.0) refl, rest.1)
