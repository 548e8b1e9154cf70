-- Which fault comes when.
use Rattle.std.proofs.Common.{◌≡◌, ◌≢◌, ℕ, ◌+◌, ◌<◌, ◌≤◌, List, [], ◌∷◌, ◌++◌, length, take, drop, get_or, set, Bool, IsTrue, Option, suc, refl, sym, ap, subst, ◌∙◌, arith}
use Rattle.std.proofs.lemmas.List.{set_split, set-get_or, length-take-le}
use Rattle.std.specs.List.{AllByRecursion}
use Rattle.sqlite_disk.specs.Disk.{MoreFaults}
use Rattle.sqlite_value.specs.Order.{Row}
use Rattle.sqlite_trees.specs.View.{View, HasCause, IsStorableRow, Tells}
use Rattle.sqlite_trees.specs.declared.error.StoreError.{StoreError}
use Rattle.sqlite_trees.specs.declared.error.StoreError.TheVariants.{OutOfMemory, Io, Corrupt, Full as NoRoom, Broken, Unstorable}
use Rattle.sqlite_trees.specs.declared.store.Shape.{Shape}
use Rattle.sqlite_trees.specs.declared.store.Shape.TheVariants.{Table}
use Rattle.sqlite_trees.specs.declared.store.Store.{Ghosts}
use Rattle.edit_journal.specs.declared.fault.JournalFault.{JournalFault}
use Rattle.edit_journal.specs.declared.fault.JournalFault.TheVariants.{NotAJournal, Locked, Damaged, Full, Failed, Shut, TooLarge, Memory}
use Rattle.edit_journal.specs.declared.line.RowStep.{RowStep}
use Rattle.edit_journal.specs.Faults.{HasReason, TellsFault, fault_of}
use Rattle.edit_journal.specs.Journals.{Fails, Fits}
use Rattle.edit_journal.specs.Lines.{edit_tree, row_of, rows_from, lines_from, lines_of}

reason_of : (v : View) (disk large : Type 0) (e : StoreError) → HasCause v disk large e → HasReason v disk large (fault_of e)
reason_of v disk large OutOfMemory cause = tt
reason_of v disk large Io cause = cause
reason_of v disk large Corrupt cause = cause
reason_of v disk large NoRoom cause = cause
reason_of v disk large Broken cause = cause
reason_of v disk large Unstorable cause = cause

told_of : (blamed : Option StoreError) (e : StoreError) → Tells blamed e → TellsFault blamed (fault_of e)
told_of blamed OutOfMemory tells kind is of_disk = absurd (cc)
told_of blamed Io tells kind is of_disk = ap fault_of (tells kind is refl)
told_of blamed Corrupt tells kind is of_disk = ap fault_of (tells kind is refl)
told_of blamed NoRoom tells kind is of_disk = ap fault_of (tells kind is refl)
told_of blamed Broken tells kind is of_disk = absurd (cc)
told_of blamed Unstorable tells kind is of_disk = absurd (cc)

reason_then : (v w : View) (disk late large more : Type 0) (f : JournalFault) → (late → disk) → (more → large) → w.shape ≡ v.shape → w.is_broken ≡ v.is_broken
    → HasReason w late more f → HasReason v disk large f
reason_then v w disk late large more NotAJournal earlier weaker shape broken h = subst (λ (s : ℕ → Shape). s edit_tree ≢ Table) shape h
reason_then v w disk late large more Locked earlier weaker shape broken h = absurd h
reason_then v w disk late large more Damaged earlier weaker shape broken h = earlier h
reason_then v w disk late large more Full earlier weaker shape broken h = earlier h
reason_then v w disk late large more Failed earlier weaker shape broken h = earlier h
reason_then v w disk late large more Shut earlier weaker shape broken h = subst (λ (b : Bool). IsTrue b) broken h
reason_then v w disk late large more TooLarge earlier weaker shape broken h = weaker h
reason_then v w disk late large more Memory earlier weaker shape broken h = tt

more_faults : (a b c : ℕ) → a ≤ b → MoreFaults b c → MoreFaults a c
more_faults a b c less more = omega (arith, less, more)

more_later : (a b c : ℕ) → MoreFaults a b → b ≤ c → MoreFaults a c
more_later a b c more less = omega (arith, less, more)

module _ {S : Type 0} (g : Ghosts S) where
  -- a call of the store failed
  pub fails_of : (old new : S) (large : Type 0) (e : StoreError) → HasCause (g.view old) (MoreFaults (g.faults old) (g.faults new)) large e → Tells (g.blamed new) e → Fails g old new large (fault_of e)
  fails_of old new large e cause tells = record { reason = reason_of (g.view old) (MoreFaults (g.faults old) (g.faults new)) large e cause; told = told_of (g.blamed new) e tells }

  -- there was no memory
  pub fails_memory : (old new : S) (large : Type 0) → Fails g old new large Memory
  fails_memory old new large = record { reason = tt; told = λ kind is of_disk. absurd (cc) }

  -- there was no room
  pub fails_large : (old new : S) (large : Type 0) → large → Fails g old new large TooLarge
  fails_large old new large h = record { reason = h; told = λ kind is of_disk. absurd (cc) }

  -- the table isn't the journal's
  pub fails_table : (old new : S) (large : Type 0) → (g.view old).shape edit_tree ≢ Table → Fails g old new large NotAJournal
  fails_table old new large h = record { reason = h; told = λ kind is of_disk. absurd (cc) }

  -- a later call failed
  pub fails_later : (old mid new : S) (large more : Type 0) (f : JournalFault) → g.faults old ≤ g.faults mid → (g.view mid).shape ≡ (g.view old).shape → (g.view mid).is_broken ≡ (g.view old).is_broken
      → (more → large) → Fails g mid new more f → Fails g old new large f
  fails_later old mid new large more f counts shape broken weaker fails = record {
    reason = reason_then (g.view old) (g.view mid) (MoreFaults (g.faults old) (g.faults new)) (MoreFaults (g.faults mid) (g.faults new)) large more f
        (more_faults (g.faults old) (g.faults mid) (g.faults new) counts) weaker shape broken fails.reason;
    told = fails.told;
  }

  -- what failed was rolled back
  pub fails_rolled : (old mid new : S) (large more : Type 0) (f : JournalFault) → g.faults mid ≤ g.faults new → g.blamed new ≡ g.blamed mid → (more → large) → Fails g old mid more f → Fails g old new large f
  fails_rolled old mid new large more f counts blame weaker fails = record {
    reason = reason_then (g.view old) (g.view old) (MoreFaults (g.faults old) (g.faults new)) (MoreFaults (g.faults old) (g.faults mid)) large more f
        (λ h. more_later (g.faults old) (g.faults mid) (g.faults new) h counts) weaker refl refl fails.reason;
    told = subst (λ (b : Option StoreError). TellsFault b f) (sym blame) fails.told;
  }

row_behind : (P : Row → Type 0) (number entry place : ℕ) (front : List RowStep) (step : RowStep) (rest : List RowStep) (at n : ℕ) → at ≡ place + length front → n ≡ number + length front
    → AllByRecursion P (rows_from number (lines_from entry place (front ++ step ∷ rest))) → P (row_of n (record { entry = entry; place = at; step = step }))
row_behind P number entry place [] step rest at n is_at is_n all = let a : at ≡ place = omega (arith, is_at) in let b : n ≡ number = omega (arith, is_n) in rw (a, b) all.0
row_behind P number entry place (first ∷ front) step rest at n is_at is_n all = row_behind P (number + 1) entry (place + 1) front step rest at n (omega (arith, is_at)) (omega (arith, is_n)) all.1

-- each row of a record that fits can be stored
pub row_fits : (reals rows entry : ℕ) (steps : List RowStep) (i : ℕ) (step : RowStep) (place number : ℕ) → i < length steps → step ≡ get_or steps i step → place ≡ i → number ≡ rows + (i + 1) → Fits reals rows entry steps
    → IsStorableRow reals (row_of number (record { entry = entry; place = place; step = step }))
row_fits reals rows entry steps i step place number less is is_place is_number fits =
    let whole : take i steps ++ step ∷ drop (suc i) steps ≡ steps = sym (set_split steps i step less) ∙ ap (λ (x : RowStep). set steps i x) is ∙ set-get_or steps i step in
    let long : length (take i steps) ≡ i = length-take-le i steps (omega (arith, less)) in
    row_behind (IsStorableRow reals) (rows + 1) entry 0 (take i steps) step (drop (suc i) steps) place number (omega (arith, long, is_place)) (omega (arith, long, is_number))
    (subst (λ (all : List RowStep). AllByRecursion (IsStorableRow reals) (rows_from (rows + 1) (lines_of entry all))) (sym whole) fits.storable)
