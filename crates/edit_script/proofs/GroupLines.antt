-- The lines of a group, read one after the other.
use Rattle.std.proofs.Common.{◌≡◌, ◌<◌, ◌≤◌, ◌+◌, ℕ, suc, List, ◌∷◌, [], ◌++◌, length, take, drop, get_or, Bor, Vec, arith, refl, sym, ◌∙◌, ap, inl, inr}
use Rattle.std.proofs.lemmas.List.{drop_more, map_more, map-append, take-append-drop, take-map, take_all, length-map}
use Rattle.std.proofs.lemmas.Slice.Zip.{all_zipped_more}
use Rattle.std.specs.Global.{Global}
use Rattle.stream_edits.specs.declared.edits.Edit.{Edit}
use Rattle.edit_script.specs.declared.commands.Command.{Command}
use Rattle.edit_script.specs.declared.commands.Command.TheVariants.{Group}
use Rattle.edit_script.specs.declared.groups.Front.TheVariants as front
use Rattle.edit_script.specs.Lines.{numbered_of, IsFront}
use Rattle.edit_script.specs.Scripts.{AreEdits, IsEditLine, IsEndLine, IsGroupLine, IsLine, IsWrongAt}

-- a lent line with its number
abbrev pub Lent : Type 0
Lent = ℕ × Bor (List ℕ)

-- the line itself
abbrev pub line_of : Lent → ℕ × List ℕ
line_of line = (line.0, line.1.now)

-- the lines before a place, the one there, and those behind it
pub parted : (lines : List Lent) (i : ℕ) (d : Lent) → i < length lines
    → numbered_of lines ≡ numbered_of (take i lines) ++ line_of (get_or lines i d) ∷ numbered_of (drop (i + 1) lines)
parted lines i d below =
    let whole : lines ≡ take i lines ++ get_or lines i d ∷ drop (i + 1) lines =
    sym (take-append-drop i lines) ∙ ap (λ rest. take i lines ++ rest) (drop_more lines i d below) in
    ap numbered_of whole ∙ map-append line_of (take i lines) (get_or lines i d ∷ drop (i + 1) lines)

-- a group's lines, up to the one at a place
pub taken : (first : ℕ × List ℕ) (lines : List Lent) (i : ℕ) (d : Lent) → i < length lines
    → take (i + 2) (first ∷ numbered_of lines) ≡ first ∷ numbered_of (take i lines) ++ line_of (get_or lines i d) ∷ []
taken first lines i d below =
    let two : i + 2 ≡ suc (i + 1) = omega arith in
    rw (two, take-map line_of (i + 1) lines, map_more line_of lines i d below) refl

module _ (lines : List Lent) (i : ℕ) (d : Lent) (below : i < length lines) where
  -- an edit more
  pub more_edits : (edits more : List Edit) (edit : Edit) → more ≡ edits ++ edit ∷ []
      → AreEdits (numbered_of (take i lines)) edits → IsEditLine (get_or lines i d).1.now edit
      → AreEdits (numbered_of (take (i + 1) lines)) more
  more_edits edits more edit are so_far it =
      rw (are, map_more line_of lines i d below)
      (all_zipped_more (λ (line : ℕ × List ℕ) (edit : Edit). IsEditLine line.1 edit) _ _ _ _ so_far it)

  -- the group is closed here
  pub closes : (number : ℕ) (first : List ℕ) (edits : Vec Edit Global) → IsGroupLine first
      → AreEdits (numbered_of (take i lines)) edits.items → IsEndLine (get_or lines i d).1.now
      → IsFront ((number, first) ∷ numbered_of lines) (front.Command number (Group edits) (i + 2))
  closes number first edits begins edited ends =
      let within : i + 2 ≤ length ((number, first) ∷ numbered_of lines) = rw (length-map lines line_of) (omega arith) in (
        inr (
          edits,
          refl,
          record {
            first = first;
            inside = numbered_of (take i lines);
            last = line_of (get_or lines i d);
            are = taken (number, first) lines i d below;
            begins = begins;
            edited = edited;
            ends = ends;
          },
        ),
        omega arith,
        within,
      )

  -- a line of the group is wrong here
  pub wrong_inside : (first : ℕ × List ℕ) (edits : List Edit) → IsGroupLine first.1
      → AreEdits (numbered_of (take i lines)) edits
      → ((edit : Edit) → ¬ IsEditLine (get_or lines i d).1.now edit) → ¬ IsEndLine (get_or lines i d).1.now
      → IsWrongAt (first ∷ numbered_of lines) (get_or lines i d).0
  wrong_inside first edits begins edited no_edit no_end = inr (inl (record {
    first = first;
    inside = numbered_of (take i lines);
    edits = edits;
    line = (get_or lines i d).1.now;
    after = numbered_of (drop (i + 1) lines);
    are = ap (λ rest. first ∷ rest) (parted lines i d below);
    begins = begins;
    edited = edited;
    no_edit = no_edit;
    no_end = no_end;
  }))

-- the group isn't closed
pub unclosed : (lines : List Lent) (i : ℕ) → length lines ≤ i → (number : ℕ) (first : List ℕ) (edits : List Edit)
    → IsGroupLine first → AreEdits (numbered_of (take i lines)) edits
    → IsWrongAt ((number, first) ∷ numbered_of lines) number
unclosed lines i past number first edits begins edited = inr (inr (record {
  first = first;
  inside = numbered_of lines;
  edits = edits;
  are = refl;
  begins = begins;
  edited = rw (take_all i lines past) at edited;
}))

-- the first line is a command by itself
pub alone : (lines : List Lent) (d : Lent) → 0 < length lines → (command : Command) → IsLine (get_or lines 0 d).1.now command
    → IsFront (numbered_of lines) (front.Command (get_or lines 0 d).0 command 1)
alone [] d below command it = absurd (omega arith)
alone (line ∷ lines) d below command it = (inl (line.1.now, refl, it), omega arith, omega arith)
