-- What the search for one unit tells of the text.
use Rattle.std.proofs.Common.{◌≡◌, ◌≢◌, ℕ, ◌+◌, ◌-◌, ◌<◌, ⊎_elim, true, List, ◌++◌, take, drop, replicate, get_or, Option, Some, None, arith, refl, ap, sym, ◌∙◌}
use Rattle.std.specs.Option.{option_map}
use Rattle.std.proofs.lemmas.Bool.{cases_eq}
use Rattle.std.proofs.lemmas.List.{drop-drop, get_or-drop, take-append-drop, drop_at, length-replicate}
use Rattle.annexb.specs.declared.fault.SplitFault.TheVariants.{ForbiddenBytes, EmptyUnit}
use Rattle.annexb.specs.ByteStream.{start_code, FollowsStartCode}
use Rattle.annexb.specs.Faults.{begins_forbidden_run}
use Rattle.annexb.specs.Search.{IsScanned, EndsUnit, IsFoundAt, IsFaultFrom}
use Rattle.annexb.proofs.Tails.{IsUnit-from_scanned}
use Rattle.annexb.proofs.ZeroRuns.{ends_unit-end, ends_unit-code}

module _ (text : List ℕ) (at : ℕ) (after : FollowsStartCode text at) where
  -- the byte before the place is the 01 of the start code
  one_before : (before : ℕ) → before + 1 ≡ at → get_or text before 0 ≢ 0
  one_before before e zero_there =
      let third : get_or text (after.start + 2) 0 ≡ 1 = sym (get_or-drop after.start text 2 0) ∙ ap (λ l. get_or l 2 0) after.code in
      let there : before ≡ after.start + 2 = omega (arith, after.place) in
      let both : get_or text (after.start + 2) 0 ≡ 0 = rw there at zero_there in
      omega arith

  -- a forbidden run past scanned bytes
  pub IsFaultFrom_forbidden : (run : ℕ)
      → IsScanned (drop at text) run × (begins_forbidden_run (drop run (drop at text)) ≡ true)
      → IsFaultFrom text at (ForbiddenBytes (at + run))
  IsFaultFrom_forbidden run (scanned, forbidden) = (
    omega arith,
    record {
      begins = λ before e zero_there. ⊎_elim (λ first. one_before before (e ∙ first) zero_there) (λ later.
          let last = before - at in
          let there : at + last ≡ before = omega arith in
          scanned.ends last (omega arith) (get_or-drop at text last 0 ∙ rw there zero_there)) (cases_eq (at + run) at);
      forbidden = rw (drop-drop run at text) at forbidden;
    },
    λ k from below.
        let past = k - at in
        let there : at + past ≡ k = omega arith in
        rw there at (rw drop-drop at (scanned.allowed past (omega arith))),
  )

  -- no byte before the end of the unit
  pub IsFaultFrom_empty : (next : Option ℕ) → EndsUnit (drop at text) 0 next → IsFaultFrom text at (EmptyUnit at)
  IsFaultFrom_empty None h = (refl, rw h.gap (ends_unit-end h.zeros))
  IsFaultFrom_empty (Some next) h = (refl, rw h.gap (ends_unit-code h.zeros (drop next (drop at text))))

  -- a unit of scanned bytes
  pub IsFoundAt-from_extent : (len : ℕ) (next : Option ℕ) → 0 < len → IsScanned (drop at text) len
      → EndsUnit (drop at text) len next → IsFoundAt text at (take len (drop at text)) (option_map (λ n. at + n) next)
  IsFoundAt-from_extent len None some scanned ends = record {
    begins = record {
      zeros = ends.zeros;
      bytes_are = ap (λ l. start_code ++ l) (sym (take-append-drop len (drop at text)) ∙ ap (λ l. take len (drop at text) ++ l) ends.gap);
      unit_is = IsUnit-from_scanned (drop at text) len some scanned;
    };
    follows = tt;
  }
  IsFoundAt-from_extent len (Some next) some scanned ends = record {
    begins = record {
      zeros = ends.zeros;
      bytes_are = ap (λ l. start_code ++ l) (sym (take-append-drop len (drop at text)) ∙ ap (λ l. take len (drop at text) ++ l) (ends.gap ∙ ap (λ l. replicate ends.zeros 0 ++ (start_code ++ l)) (drop-drop next at text)));
      unit_is = IsUnit-from_scanned (drop at text) len some scanned;
    };
    follows = (
      omega (arith, ends.follows.0),
      record {
        start = at + (len + ends.zeros);
        place = omega (arith, ends.follows.0);
        code = sym (drop-drop (len + ends.zeros) at text) ∙ sym (drop-drop ends.zeros len (drop at text)) ∙ ap (drop ends.zeros) ends.gap
            ∙ drop_at (replicate ends.zeros 0) (start_code ++ drop next (drop at text)) ends.zeros (length-replicate ends.zeros 0) ∙ ap (λ l. start_code ++ l) (drop-drop next at text);
      },
    );
  }
