-- So many entries of a journal lead to one stream.
use Rattle.std.proofs.Common.{◌≡◌, ℕ, List, [], ◌∷◌, sym, ◌∙◌, subst, take}
use Rattle.stream_edits.specs.declared.edits.Edit.{Edit}
use Rattle.stream_edits.specs.Journals.{edits_of}
use Rattle.stream_edits.specs.Edits.{Register, no_units, Replays}
use Rattle.stream_edits.proofs.OneEdit.{one_edit}
use Rattle.seat_books.specs.Books.{LeadTo}

-- edits that are made one after the other lead to one stream
one_replay : (from : Register) (edits : List Edit) (to other : Register) → Replays from edits to → Replays from edits other
    → to ≡ other
one_replay from [] to other a b = sym a ∙ b
one_replay from (edit ∷ edits) to other a b =
    let same = one_edit from edit a.0 b.0 a.1 b.1 a.2 b.2 in
    one_replay b.1 edits to other (subst (λ (r : Register). Replays r edits to) same.registers a.3) b.3

-- so many entries of a journal lead to one stream
pub one_lead : (journal : List (List Edit)) (n : ℕ) (a b : Register) → LeadTo journal n a → LeadTo journal n b → a ≡ b
one_lead journal n a b is so = one_replay no_units (edits_of (take n journal)) a b is.replayed so.replayed
