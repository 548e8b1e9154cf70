-- The first entries of a journal, made in turn.
use Rattle.std.proofs.Common.{◌≡◌, ℕ, ◌+◌, List, [], ◌∷◌, ◌++◌, length, take, Some, ap, sym, ◌∙◌, subst, arith, length-append}
use Rattle.std.specs.Prelude.{slice_get}
use Rattle.std.proofs.lemmas.List.{take_more}
use Rattle.std.proofs.lemmas.Option.{slice_get_within, get_or_from_slice_get}
use Rattle.stream_edits.specs.declared.edits.Edit.{Edit}
use Rattle.stream_edits.specs.Edits.{Register, no_units, Replays}
use Rattle.stream_edits.specs.Groups.{MakesAll}
use Rattle.stream_edits.specs.Journals.{edits_of}
use Rattle.stand_in_session.specs.Machines.{Machine}
use Rattle.stream_edits.proofs.Grouped.{Replays-entry}
use Rattle.seat_books.specs.Books.{LeadTo}
use Rattle.seat_books.specs.Following.{IsFront, MakesEntry}

-- the first entries with the next one
pub take_next : (journal : List (List Edit)) (n : ℕ) (edits : List Edit) → slice_get journal n ≡ Some edits
    → take (n + 1) journal ≡ take n journal ++ edits ∷ []
take_next journal n edits stands =
    take_more journal n edits (slice_get_within journal n edits stands)
    ∙ ap (λ (entry : List Edit). take n journal ++ entry ∷ []) (get_or_from_slice_get journal n edits edits stands)

-- one entry more leads on
pub LeadTo-next : (journal : List (List Edit)) (n : ℕ) (old : Register) (edits : List Edit) (ids : List ℕ) (new : Register)
    → LeadTo journal n old → slice_get journal n ≡ Some edits → MakesAll old edits ids new → LeadTo journal (n + 1) new
LeadTo-next journal n old edits ids new leads stands made = record {
  within = omega (arith, slice_get_within journal n edits stands);
  replayed =
      subst (λ (entries : List (List Edit)). Replays no_units (edits_of entries) new) (sym (take_next journal n edits stands))
      (Replays-entry no_units (take n journal) old edits ids new leads.replayed made);
}

pub length_next : (old new : List (List Edit)) (edits : List Edit) → new ≡ old ++ edits ∷ [] → length new ≡ length old + 1
length_next old new edits is = ap length is ∙ (length-append old (edits ∷ []))

-- a session that made the first entries, and makes the next
pub IsFront-next : (journal : List (List Edit)) (old new : Machine) (edits : List Edit) (ids : List ℕ) → IsFront journal old
    → slice_get journal (length old.journal) ≡ Some edits → MakesEntry old edits ids new → IsFront journal new
IsFront-next journal old new edits ids front stands makes =
    let more : length new.journal ≡ length old.journal + 1 = length_next old.journal new.journal edits makes.journaled in
    record {
      front =
          makes.journaled
          ∙ (ap (λ (entries : List (List Edit)). entries ++ edits ∷ []) front.front
          ∙ (sym (take_next journal (length old.journal) edits stands)
          ∙ ap (λ (n : ℕ). take n journal) (sym more)));
      leads =
          subst (λ (n : ℕ). LeadTo journal n new.register) (sym more)
          (LeadTo-next journal (length old.journal) old.register edits ids new.register front.leads stands makes.made);
    }

-- a session with the same entries
pub IsFront-same : (journal : List (List Edit)) (old new : Machine) → new.journal ≡ old.journal → new.register ≡ old.register
    → IsFront journal old → IsFront journal new
IsFront-same journal old new journal_is register_is front = record {
  front = journal_is ∙ (front.front ∙ ap (λ (entries : List (List Edit)). take (length entries) journal) (sym journal_is));
  leads =
      subst (λ (entries : List (List Edit)). LeadTo journal (length entries) new.register) (sym journal_is)
      (subst (λ (register : Register). LeadTo journal (length old.journal) register) (sym register_is) front.leads);
}
