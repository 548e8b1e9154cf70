-- Words that begin with `want` and are no command.
use Rattle.std.proofs.Common.{◌≡◌, ◌≤◌, ◌-◌, ℕ, true, List, [], ◌∷◌, length, take, drop, get_or, Bor, arith, refl, sym, subst}
use Rattle.std.specs.Prelude.{None, codes, Result, Ok, Err, IsErrAnd, MatchResult}
use Rattle.std.proofs.lemmas.List.{take_rest}
use Rattle.std.specs.Str.{bytes_eq}
use Rattle.std.proofs.lemmas.Slice.Eq.{bytes_eq-Decides}
use Rattle.edit_script.specs.Commands.{IsNoCommand, ids_of_words}
use Rattle.edit_script.specs.Words.{texts_of}

-- `want` with words that aren't all ids
want_none : (ids : List (List ℕ)) → ids_of_words ids ≡ None → IsNoCommand (codes "want" ∷ ids)
want_none [] e = absurd (cc)
want_none (id ∷ []) e =
    (refl, refl, refl, refl, refl, refl, refl, refl, refl, refl, refl, refl, refl, refl, refl, e, refl)
want_none (id ∷ more ∷ ids) e =
    (refl, refl, refl, refl, refl, refl, refl, refl, refl, refl, refl, refl, refl, refl, refl, e, refl)

-- the same, where the first word is `want`
wanted_none : (name : List ℕ) (ids : List (List ℕ)) → bytes_eq name (codes "want") ≡ true
    → ids_of_words ids ≡ None → IsNoCommand (name ∷ ids)
wanted_none name ids is e =
    subst (λ (first : List ℕ). IsNoCommand (first ∷ ids)) (sym ((bytes_eq-Decides name (codes "want")).0 is)) (want_none ids e)

-- an error by `?` is what the error below is turned into
pub match_err : {T E : Type 0} (result : Result T E) (from : E → Type 0) (P : T → Type 0) (Q : E → Type 0)
    → IsErrAnd result from → ((fault : E) → from fault → Q fault) → MatchResult result P Q
match_err (Ok x) from P Q is all = absurd is
match_err (Err fault) from P Q is all = all fault is

-- lent words of which the first is `want`, and which aren't ids behind it
pub lent_wanted_none : (words : List (Bor (List ℕ))) (d : Bor (List ℕ)) → 1 ≤ length words
    → bytes_eq (get_or words 0 d).now (codes "want") ≡ true
    → ids_of_words (texts_of (take (length words - 1) (drop 1 words))) ≡ None → IsNoCommand (texts_of words)
lent_wanted_none [] d some is none = absurd (omega (arith, some))
lent_wanted_none (name ∷ ids) d some is none =
    wanted_none name.now (texts_of ids) is
    (subst (λ (l : List (Bor (List ℕ))). ids_of_words (texts_of l) ≡ None) (take_rest (name ∷ ids) 1) none)
