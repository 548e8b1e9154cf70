-- What a commit, a failure and a rollback make of lines.
use Rattle.std.proofs.Common.{◌≡◌, ◌⊎◌, ℕ, ◌≤◌, List, length, Bool, true, false, IsTrue, refl, sym, ap, subst, ◌∙◌, inl, inr, arith}
use Rattle.sqlite_disk.specs.Disk.{MoreFaults}
use Rattle.sqlite_trees.specs.Tree.{Trees}
use Rattle.sqlite_trees.specs.View.{View, doubt, IsClean, IsFailure, IsRolledBack, Commits}
use Rattle.sqlite_trees.specs.declared.error.StoreError.{StoreError}
use Rattle.sqlite_trees.specs.declared.store.Store.{Ghosts}
use Rattle.edit_journal.specs.declared.line.Line.{Line}
use Rattle.edit_journal.specs.Lines.{Keeps, edit_tree}
use Rattle.edit_journal.specs.Journals.{KeepsCommit, Lasts, Stands, Survives}
use Rattle.edit_journal.proofs.ViewLemmas.{Quiet}

pub keeps_itself : (v : View) → KeepsCommit v v
keeps_itself v = record { was_open = λ h. h; committed = λ _. refl }

pub failed_keeps : (old new : View) (e : StoreError) → IsFailure old new e → KeepsCommit old new
failed_keeps old new e failed = record { was_open = failed.kept.was_open; committed = failed.kept.committed }

pub rolled_keeps : (old new : View) → IsClean new → IsRolledBack old new → KeepsCommit old new
rolled_keeps old new clean rolled = record { was_open = (rolled.kept clean).was_open; committed = (rolled.kept clean).committed }

is_open_if : (is_open is_broken : Bool) → (is_open ≡ false → IsTrue is_broken) → is_broken ≡ false → IsTrue is_open
is_open_if true is_broken shut sound = refl
is_open_if false is_broken shut sound = absurd (let h = shut refl in cc)

-- a store that is not broken is open
pub open_if_sound : (v : View) → (v.is_open ≡ false → IsTrue v.is_broken) → v.is_broken ≡ false → IsTrue v.is_open
open_if_sound v = is_open_if v.is_open v.is_broken

-- what a rollback leaves after a call that failed is what was there before the call
pub stands_again : (old mid new : View) (rows : ℕ) (lines : List Line) → IsClean new → KeepsCommit old mid → IsRolledBack mid new → IsTrue new.is_open → Stands old rows lines → Stands new rows lines
stands_again old mid new rows lines clean keeps rolled is_open stands =
    let back = rolled_keeps mid new clean rolled in
    let was = keeps.committed (back.was_open is_open) in
    record {
      shows = record { now = ap (λ (t : Trees). t edit_tree) ((rolled.undone is_open).0 ∙ was) ∙ stands.committed; count = stands.shows.count };
      committed = ap (λ (t : Trees). t edit_tree) (back.committed is_open ∙ was) ∙ stands.committed;
    }

closes_then : {A B : Type 0} (old mid new : ℕ) → old ≤ mid → mid ≤ new → A ⊎ MoreFaults old mid → (A → B ⊎ MoreFaults mid new) → B ⊎ MoreFaults old new
closes_then old mid new first second (inl still) then = elim (then still) [ inl now ↦ inl now | inr fault ↦ inr (omega (arith, first)) ]
closes_then old mid new first second (inr fault) then = inr (omega (arith, second))

module _ {S : Type 0} (g : Ghosts S) where
  -- and a crash leaves it
  pub lasts_again : (old mid : View) (new : S) (rows : ℕ) (lines : List Line) → IsClean (g.view new) → KeepsCommit old mid → IsRolledBack mid (g.view new) → IsTrue (g.view new).is_open
      → ((db : Trees) → IsTrue (g.view new).is_open → g.recovers new db → db ≡ (g.view new).committed) → Stands old rows lines → Lasts g new rows lines
  lasts_again old mid new rows lines clean keeps rolled is_open settled stands =
      let again = stands_again old mid (g.view new) rows lines clean keeps rolled is_open stands in
      record { stands = again; leaves = λ db may. ap (λ (t : Trees). t edit_tree) (settled db is_open may) ∙ again.committed }

  -- what is committed lasts
  pub commit_lasts : (mid new : S) (rows : ℕ) (lines : List Line) → Commits (g.view mid) (g.view new) → Keeps (g.view mid).trees lines → rows ≡ length lines
      → ((g.view new).is_open ≡ false → IsTrue (g.view new).is_broken) → ((db : Trees) → IsTrue (g.view new).is_open → g.recovers new db → db ≡ (g.view new).committed)
      → Lasts g new rows lines
  commit_lasts mid new rows lines commits keeps count shut settled =
      let sound = ap (λ (v : View). v.is_broken) commits.is ∙ commits.sound in
      let committed : Keeps (g.view new).committed lines = ap (λ (v : View). v.committed edit_tree) commits.is ∙ keeps in
      record {
        stands = record { shows = record { now = ap (λ (v : View). v.trees edit_tree) commits.is ∙ keeps; count = count }; committed = committed };
        leaves = λ db may. ap (λ (t : Trees). t edit_tree) (settled db (open_if_sound (g.view new) shut sound) may) ∙ committed;
      }

  module _ (P : Trees → Type 0) where
    pub survives_quiet : (old new : S) → Quiet g old new → Survives g old new P
    survives_quiet old new quiet = record { clean = quiet.clean; counts = quiet.counts; closes = quiet.closes; crash = λ _ db may. inl (quiet.outcomes db may) }

    pub survives_commit : (old mid new : S) → Quiet g old mid → doubt (g.view mid).is_clean ≤ doubt (g.view new).is_clean → g.faults mid ≤ g.faults new
        → (IsClean (g.view new) → IsTrue (g.view mid).is_open → IsTrue (g.view new).is_open ⊎ MoreFaults (g.faults mid) (g.faults new))
        → ((db : Trees) → g.recovers new db → (((g.view mid).is_broken ≡ false) × (db ≡ (g.view mid).trees)) ⊎ g.recovers mid db) → (IsClean (g.view mid) → P (g.view mid).trees)
        → Survives g old new P
    survives_commit old mid new quiet clean counts closes crash holds = record {
      clean = omega (arith, quiet.clean, clean);
      counts = omega (arith, quiet.counts, counts);
      closes = λ now was. closes_then (g.faults old) (g.faults mid) (g.faults new) quiet.counts counts (quiet.closes (omega (arith, now, clean)) was) (closes now);
      crash = λ now db may. elim (crash db may) [ inl done ↦ inr (subst P (sym done.1) (holds (omega (arith, now, clean)))) | inr before ↦ inl (quiet.outcomes db before) ];
    }

    pub survives_before : (Q : Trees → Type 0) (old mid new : S) → Quiet g old mid → Survives g mid new Q → (IsClean (g.view mid) → (db : Trees) → Q db → P db) → Survives g old new P
    survives_before Q old mid new quiet later weaker = record {
      clean = omega (arith, quiet.clean, later.clean);
      counts = omega (arith, quiet.counts, later.counts);
      closes = λ now was. closes_then (g.faults old) (g.faults mid) (g.faults new) quiet.counts later.counts (quiet.closes (omega (arith, now, later.clean)) was) (later.closes now);
      crash = λ now db may. elim (later.crash now db may) [ inl before ↦ inl (quiet.outcomes db before) | inr done ↦ inr (weaker (omega (arith, now, later.clean)) db done) ];
    }

    pub survives_after : (old mid new : S) → Survives g old mid P → Quiet g mid new → Survives g old new P
    survives_after old mid new first quiet = record {
      clean = omega (arith, first.clean, quiet.clean);
      counts = omega (arith, first.counts, quiet.counts);
      closes = λ now was. closes_then (g.faults old) (g.faults mid) (g.faults new) first.counts quiet.counts (first.closes (omega (arith, now, quiet.clean)) was) (quiet.closes now);
      crash = λ now db may. first.crash (omega (arith, now, quiet.clean)) db (quiet.outcomes db may);
    }
