-- What the matches of a command line are read as.
use Rattle.std.proofs.Common.{◌≡◌, ◌∙◌, ◌≤◌, ◌<◌, ◌^◌, ℕ, Bool, cond, true, false, refl, sym, ap, arith, List, Option, Some, None, option_map, Result, Ok, Err, codes}
use Rattle.std.specs.Prelude.{option_and_then}
use Rattle.std.specs.Str.Parse.{ParsesUnsigned, digits_value, without_leading_plus}
use Rattle.clap.specs.Values.{Accepts}
use Rattle.clap.specs.ValueTests.{is_unsigned_in}
use Rattle.clap.specs.Words.{ReadsOne, Text, first_of, first_value, one_of, one_text, rows_of}
use Rattle.clap.specs.declared.builder.ValueParser.TheVariants.{Unsigned}
use Rattle.clap.specs.declared.parser.matches.Found.{Found}
use Rattle.clap.proofs.ValueTestLemmas.{Accepts-accepts, accepts-Accepts}
use Rattle.clap.proofs.WalkLemmas.{first_value-rows, one_text-rows}
use Rattle.unit_printing.specs.declared.json.encoding.DecodeMode.{DecodeMode}
use Rattle.cli.specs.Bounds.{most_id}
use Rattle.cli.specs.CommandLine.{Wanted, audit, audit_in, cache_in, check, check_in, draw_in, drawing, form_in, from_by, from_in, has_flag, is_true, mend, mend_in, number_in, number_of, plan, plan_in, run, run_in, serve, serve_in, several, units_in, workers_in}

-- with no value of FILE nothing is planned
pub no-file : (f : Found) → None ≡ first_value f (codes "FILE") → None ≡ plan_in (rows_of f)
no-file f none =
    ap (option_and_then (λ name. option_map (plan name) (form_in (rows_of f)))) (none ∙ first_value-rows f (codes "FILE"))

-- with one it is planned in the form that the flags give
pub plan-read : (f : Found) (name : Text) (form : Option (Option DecodeMode)) → Some name ≡ first_value f (codes "FILE")
    → form_in (rows_of f) ≡ form → option_map (plan name) form ≡ plan_in (rows_of f)
plan-read f name form file is =
    ap (λ (form : Option (Option DecodeMode)). option_map (plan name) form) (sym is)
    ∙ ap (option_and_then (λ t. option_map (plan t) (form_in (rows_of f)))) (file ∙ first_value-rows f (codes "FILE"))

-- the value of FILE is what is mended
pub mend-read : (f : Found) (name : Option Text) → name ≡ first_value f (codes "FILE") → option_map mend name ≡ mend_in (rows_of f)
mend-read f name is = ap (option_map mend) (is ∙ first_value-rows f (codes "FILE"))

-- with no value of FILE nothing is checked
pub no-check : (f : Found) → None ≡ first_value f (codes "FILE") → None ≡ check_in (rows_of f)
no-check f none = ap (option_map (λ name. check name (has_flag (codes "json") (rows_of f)))) (none ∙ first_value-rows f (codes "FILE"))

-- with one it is, as the flag says
pub check-read : (f : Found) (name : Text) (json : Bool) → Some name ≡ first_value f (codes "FILE") → json ≡ has_flag (codes "json") (rows_of f)
    → Some (check name json) ≡ check_in (rows_of f)
check-read f name json file is =
    ap (λ (b : Bool). Some (check name b)) is
    ∙ ap (option_map (λ t. check t (has_flag (codes "json") (rows_of f)))) (file ∙ first_value-rows f (codes "FILE"))

-- the script by which the stream is edited
abbrev script_of : Found → Option Text
script_of f = first_of (codes "edits") (rows_of f)

-- with no value of FILE nothing is drawn
pub no-draw : (f : Found) → None ≡ first_value f (codes "FILE") → None ≡ draw_in (rows_of f)
no-draw f none = ap (option_and_then (λ name. option_and_then (λ from.
    option_map (drawing name (script_of f) from) (units_in (rows_of f))) (from_in (rows_of f))))
    (none ∙ first_value-rows f (codes "FILE"))

-- with one it is drawn with what the options give
pub draw-read : (f : Found) (name : Text) (script : Option Text) (from : Option (Option ℕ)) (units : Option ℕ)
    → Some name ≡ first_value f (codes "FILE") → script ≡ first_value f (codes "edits")
    → from_in (rows_of f) ≡ from → units_in (rows_of f) ≡ units
    → option_and_then (λ n. option_map (drawing name script n) units) from ≡ draw_in (rows_of f)
draw-read f name script from units file edits from_is is =
    ap (λ (s : Option Text). option_and_then (λ n. option_map (drawing name s n) units) from) (edits ∙ first_value-rows f (codes "edits"))
    ∙ (ap (λ (r : Option ℕ). option_and_then (λ n. option_map (drawing name (script_of f) n) r) from) (sym is)
    ∙ (ap (option_and_then (λ n. option_map (drawing name (script_of f) n) (units_in (rows_of f)))) (sym from_is)
    ∙ ap (option_and_then (λ t. option_and_then (λ n. option_map (drawing t (script_of f) n) (units_in (rows_of f))) (from_in (rows_of f))))
    (file ∙ first_value-rows f (codes "FILE"))))

-- no id is given
pub from-none : (f : Found) → None ≡ first_value f (codes "from") → Some None ≡ from_in (rows_of f)
from-none f none = ap (λ (o : Option Text). from_by o (rows_of f)) (none ∙ first_value-rows f (codes "from"))

-- one is
pub from-some : (f : Found) (text : Text) → Some text ≡ first_value f (codes "from") → (id : Option ℕ)
    → id ≡ number_of (codes "from") 0 most_id (rows_of f) → option_map (λ n. Some n) id ≡ from_in (rows_of f)
from-some f text some id is =
    ap (option_map (λ n. Some n)) is ∙ ap (λ (o : Option Text). from_by o (rows_of f)) (some ∙ first_value-rows f (codes "from"))

-- whether `--hex` was given
abbrev hex_of : Found → Bool
hex_of f = has_flag (codes "hex") (rows_of f)

-- the run of a script with these
abbrev run_with : Bool → Text → ℕ → ℕ → Wanted
run_with hex name workers capacity = run name (several workers) capacity hex

-- with no value of SCRIPT nothing is run
pub no-script : (f : Found) → None ≡ first_value f (codes "SCRIPT") → None ≡ run_in (rows_of f)
no-script f none = ap (option_and_then (λ name. option_and_then (λ workers.
    option_map (run_with (hex_of f) name workers) (cache_in (rows_of f))) (workers_in 0 (rows_of f))))
    (none ∙ first_value-rows f (codes "SCRIPT"))

-- with one it is run with what the options give
pub script-read : (f : Found) (name : Text) (workers capacity : Option ℕ) (hex : Bool) → Some name ≡ first_value f (codes "SCRIPT")
    → workers_in 0 (rows_of f) ≡ workers → cache_in (rows_of f) ≡ capacity → hex ≡ hex_of f
    → option_and_then (λ n. option_map (run_with hex name n) capacity) workers ≡ run_in (rows_of f)
script-read f name workers capacity hex script several_are is given =
    ap (λ (h : Bool). option_and_then (λ n. option_map (run_with h name n) capacity) workers) given
    ∙ (ap (λ (r : Option ℕ). option_and_then (λ n. option_map (run_with (hex_of f) name n) r) workers) (sym is)
    ∙ (ap (option_and_then (λ n. option_map (run_with (hex_of f) name n) (cache_in (rows_of f)))) (sym several_are)
    ∙ ap (option_and_then (λ t. option_and_then (λ n. option_map (run_with (hex_of f) t n) (cache_in (rows_of f))) (workers_in 0 (rows_of f))))
    (script ∙ first_value-rows f (codes "SCRIPT"))))

-- with no value of SCRIPT nothing is audited
pub no-audit : (f : Found) → None ≡ first_value f (codes "SCRIPT") → None ≡ audit_in (rows_of f)
no-audit f none = ap (option_and_then (λ name. option_and_then (λ workers.
    option_map (audit name workers) (cache_in (rows_of f))) (workers_in 1 (rows_of f))))
    (none ∙ first_value-rows f (codes "SCRIPT"))

-- with one it is audited with what the options give
pub audit-read : (f : Found) (name : Text) (workers capacity : Option ℕ) → Some name ≡ first_value f (codes "SCRIPT")
    → workers_in 1 (rows_of f) ≡ workers → cache_in (rows_of f) ≡ capacity
    → option_and_then (λ n. option_map (audit name n) capacity) workers ≡ audit_in (rows_of f)
audit-read f name workers capacity script several_are is =
    ap (λ (r : Option ℕ). option_and_then (λ n. option_map (audit name n) r) workers) (sym is)
    ∙ (ap (option_and_then (λ n. option_map (audit name n) (cache_in (rows_of f)))) (sym several_are)
    ∙ ap (option_and_then (λ t. option_and_then (λ n. option_map (audit t n) (cache_in (rows_of f))) (workers_in 1 (rows_of f))))
    (script ∙ first_value-rows f (codes "SCRIPT")))

-- a flag's value is what the matches give for it
pub flag-read : (f : Found) (name : Text) (value : Option Text) → value ≡ first_value f name → is_true value ≡ has_flag name (rows_of f)
flag-read f name value is = ap is_true (is ∙ first_value-rows f name)

module _ (low high : ℕ) where
  within : (t : Text) → Accepts false (Unsigned low high) t → number_in low high t ≡ Some (digits_value 10 (without_leading_plus t))
  within t h = ap (λ b. cond b (Some (digits_value 10 (without_leading_plus t))) None) (Accepts-accepts false (Unsigned low high) t h)

  outside : (t : Text) → (Accepts false (Unsigned low high) t → ⊥) → number_in low high t ≡ None
  outside t bad = go (is_unsigned_in low high t) refl
    where
      go : (b : Bool) → is_unsigned_in low high t ≡ b → cond b (Some (digits_value 10 (without_leading_plus t))) None ≡ None
      go true e = absurd (bad (accepts-Accepts false (Unsigned low high) t e))
      go false e = refl

module _ (bits : ℕ) (E : Type 0) (G : List ℕ → Result ℕ E → Type 0) (only : (u : List ℕ) (x : Result ℕ E) → G u x → ParsesUnsigned bits 10 u x) (id : Text) (low high : ℕ) (small : high < 2 ^ bits) (fits : high < 2 ^ 64) (f : Found) where
  at : (o : Option Text) → one_text f id ≡ o → number_of id low high (rows_of f) ≡ option_and_then (number_in low high) o
  at o is = ap (option_and_then (number_in low high)) (sym (one_text-rows f id) ∙ is)

  -- a number within the bounds that the value reads as is that number
  pub number-read : (n : ℕ) → (one_text f id ≡ None → Some n ≡ None)
      → ((t : List ℕ) → one_text f id ≡ Some t → ReadsOne G t (Some n)) → low ≤ n → n ≤ high
      → Some n ≡ number_of id low high (rows_of f)
  number-read n none value least most = sym (go (one_text f id) refl)
    where
      go : (o : Option Text) → one_text f id ≡ o → number_of id low high (rows_of f) ≡ Some n
      go None is = let bad = none is in cc
      go (Some t) is =
          let read = only t (Ok n) (value t is) in
          let same = read.1 in
          at (Some t) is ∙ (within low high t (read.0.0, omega (arith), omega (arith), omega (arith)) ∙ ap (λ k. Some k) (sym read.1))

  -- a number outside them is none
  pub number-out : (n : ℕ) → (one_text f id ≡ None → Some n ≡ None)
      → ((t : List ℕ) → one_text f id ≡ Some t → ReadsOne G t (Some n)) → (low ≤ n → n ≤ high → ⊥)
      → None ≡ number_of id low high (rows_of f)
  number-out n none value out = sym (go (one_text f id) refl)
    where
      go : (o : Option Text) → one_text f id ≡ o → number_of id low high (rows_of f) ≡ None
      go None is = at None is
      go (Some t) is =
          let read = only t (Ok n) (value t is) in
          let same = read.1 in
          at (Some t) is ∙ outside low high t (λ h. let above = h.2 in let below = h.3 in out (omega (arith)) (omega (arith)))

  -- nor is a text that is no number
  pub number-none : ((t : List ℕ) → one_text f id ≡ Some t → ReadsOne G t None)
      → None ≡ number_of id low high (rows_of f)
  number-none value = sym (go (one_text f id) refl)
    where
      go : (o : Option Text) → one_text f id ≡ o → number_of id low high (rows_of f) ≡ None
      go None is = at None is
      go (Some t) is =
          let read = value t is in
          let refuses = only t (Err read.0) read.1 in
          at (Some t) is ∙ outside low high t (λ h. let below = h.3 in refuses (h.0, omega (arith)))

-- a server is run with what the options give
pub serve-read : (f : Found) (workers capacity : Option ℕ) (journal : Option Text) → workers_in 0 (rows_of f) ≡ workers
    → cache_in (rows_of f) ≡ capacity → journal ≡ first_value f (codes "journal")
    → option_and_then (λ n. option_map (λ m. serve (several n) m journal) capacity) workers ≡ serve_in (rows_of f)
serve-read f workers capacity journal several_are is given =
    ap (λ (r : Option ℕ). option_and_then (λ n. option_map (λ m. serve (several n) m journal) r) workers) (sym is)
    ∙ (ap (option_and_then (λ n. option_map (λ m. serve (several n) m journal) (cache_in (rows_of f)))) (sym several_are)
    ∙ ap (λ (j : Option Text). option_and_then (λ n. option_map (λ m. serve (several n) m j) (cache_in (rows_of f))) (workers_in 0 (rows_of f)))
    (given ∙ first_value-rows f (codes "journal")))
