-- Commands answered one after the other, and what was written where the last one isn't answered in
-- full.
use Rattle.std.proofs.Common.{◌≡◌, ◌∙◌, ℕ, List, [], ◌∷◌, ◌++◌, Option, refl, ap, sym, inl, inr, append_assoc, append-nil}
use Rattle.std.proofs.KnownBytes.{Appends-trans}
use Rattle.std.specs.Io.KnownBytes.{Appends}
use Rattle.console_io.specs.Chunks.{AppendsFront}
use Rattle.console_io.proofs.Chunked.{front-after}
use Rattle.script_run.specs.Sequences.{AreAnswered, AreWritten, StopsAmong}
use Rattle.script_run.specs.declared.run_fault.RunFault.{RunFault}
use Rattle.script_run.specs.declared.run_fault.RunFault.TheVariants.{Unwritten}

module _ {S C : Type 0} (answers : S → C → List ℕ → S → Type 0) where
  -- a command after others
  pub answered-push : (from : S) (commands : List C) (lines : List ℕ) (between : S)
      → AreAnswered answers from commands lines between
      → (it : C) (more : List ℕ) (to : S) → answers between it more to
      → AreAnswered answers from (commands ++ it ∷ []) (lines ++ more) to
  answered-push from [] lines between done it more to last =
      let same = ap (λ (l : List ℕ). l ++ more) done.0 ∙ sym (append-nil more) in
      (more, [], to, rw done.1 at last, (refl, refl), same)
  answered-push from (first ∷ commands) lines between runs it more to last =
      let rest = answered-push runs.2 commands runs.1 between runs.4 it more to last in
      let same = ap (λ (l : List ℕ). l ++ more) runs.5 ∙ append_assoc runs.0 runs.1 more in
      (runs.0, runs.1 ++ more, runs.2, runs.3, rest, same)

  -- what answers a command is written after what answers those before it
  pub written-push : (from : S) (commands : List C) (between : S) (a b c : Option (List ℕ))
      → AreWritten answers from commands between a b
      → (it : C) (more : List ℕ) (to : S) → answers between it more to → Appends b c more
      → AreWritten answers from (commands ++ it ∷ []) to a c
  written-push from commands between a b c ran it more to last appends =
      let runs = answered-push from commands ran.0 between ran.1 it more to last in
      (ran.0 ++ more, runs, Appends-trans a b c ran.0 more ran.2 appends)

  module _ (is_fault : C → RunFault → Type 0) (from : S) (commands : List C) (between : S) (a b : Option (List ℕ))
      (ran : AreWritten answers from commands between a b) where
    -- the commands before this one were answered, and it isn't
    pub stops-before : (all : List C) (it : C) (rest : List C) → all ≡ commands ++ it ∷ rest
        → (fault : RunFault) → is_fault it fault → (R : Type 0) → StopsAmong answers is_fault from all fault R a b
    stops-before all it rest are fault stopped R = record {
      before = commands;
      command = it;
      after = rest;
      are = are;
      between = between;
      lines = ran.0;
      ran = ran.1;
      stops = inl (stopped, ran.2);
    }

    -- they were answered, and the writer takes a prefix of the answer of this one
    pub stops-within : (c : Option (List ℕ)) (all : List C) (it : C) (rest : List C) → all ≡ commands ++ it ∷ rest
        → (lines : List ℕ) (to : S) → answers between it lines to → AppendsFront b c lines
        → (fault : RunFault) → fault ≡ Unwritten → (R : Type 0) → R → StopsAmong answers is_fault from all fault R a c
    stops-within c all it rest are lines to last got fault unwritten R refused = record {
      before = commands;
      command = it;
      after = rest;
      are = are;
      between = between;
      lines = ran.0;
      ran = ran.1;
      stops = inr (unwritten, refused, (lines, to, last, front-after a b c ran.0 lines ran.2 got));
    }
