use Rattle.std.proofs.Common.{◌≡◌, ◌∙◌, ℕ, List, [], ◌∷◌, ◌++◌, ap, length, refl, sym, subst, string_bytes, rules}
use Rattle.std.proofs.lemmas.List.{nil_from_length}
use Rattle.std.proofs.lemmas.Result.{IfOk-weaker}
use Rattle.std.specs.Vec.Iter.{into_iter_items}
use Rattle.script_run.specs.Answers.{loaded_line}
use Rattle.script_run.specs.SharedRunning.{InsertsAll}
use Rattle.script_run.proofs.Appended.{alone, inserts_on, inserts_up_to, moved}
use Rattle.script_run.proofs.shared.loading.insert_all.Goals as goal

pub returns-in-Some-insert_handful : goal.returns-in-Some-insert_handful
returns-in-Some-insert_handful g c =
    let count = length c.args.units.items in
    let after = c.insert_handful.new.seat in
    let handful = c.loop-unit.handful.items in
    let more = into_iter_items c.next.new.self in
    let put : c.push.new.self.items ≡ handful ++ c.in-Some.unit ∷ [] = search rules in
    let same = moved handful more c.in-Some.unit c.push.new.self.items (into_iter_items c.loop-unit.unit-iterator) put
    c.in-Some.ensures.steps.0 in
    let inserts = c.in-Some-insert_handful.ensures.inserted.1 in
    IfOk-weaker c.to_string.result _ _ (λ lines is. c.loop-unit.invariant (string_bytes lines) after
    (subst (λ (parts : List (List (List ℕ))). InsertsAll count c.loop-unit.seat parts (string_bytes lines) after) same
    (inserts_up_to count (string_bytes lines) 0 inserts.0 c.loop-unit.seat c.push.new.self.items _ inserts.1 after
    c.in-Some-insert_handful.refused inserts.3 refl is more))) c.to_string.ensures.ok

pub loop-unit-preserved : goal.loop-unit-preserved
loop-unit-preserved g c = λ lines new others.
    let count = length c.args.units.items in
    let handful = c.loop-unit.handful.items in
    let more = into_iter_items c.next.new.self in
    let put : c.push.new.self.items ≡ handful ++ c.in-Some.unit ∷ [] = search rules in
    let same = moved handful more c.in-Some.unit c.push.new.self.items (into_iter_items c.loop-unit.unit-iterator) put
    c.in-Some.ensures.steps.0 in
    let inserts = c.in_default.ensures.inserted.1 in
    let rest = subst (λ (parts : List (List (List ℕ))). InsertsAll count c.insert_handful.new.seat (parts ++ more) lines new)
    c.in_default.ensures.empty others in
    c.loop-unit.invariant lines new
    (subst (λ (parts : List (List (List ℕ))). InsertsAll count c.loop-unit.seat parts lines new) same
    (inserts_on count lines 0 inserts.0 c.loop-unit.seat c.push.new.self.items _ inserts.1 c.insert_handful.new.seat
    inserts.3 refl more new rest))

pub returns-in-Some-insert_handful-2 : goal.returns-in-Some-insert_handful-2
returns-in-Some-insert_handful-2 g c =
    let count = length c.args.units.items in
    let after = c.insert_handful-2.new.seat in
    let handful = c.loop-unit.handful.items in
    let left = c.loop-unit.unit-iterator in
    let none = nil_from_length (into_iter_items left) (sym left.rest.ok.0 ∙ c.in-None.ensures.steps.0) in
    let inserts = c.in-Some-insert_handful-2.ensures.inserted.1 in
    IfOk-weaker c.to_string-in-Some-insert_handful-2.result _ _ (λ lines is. c.loop-unit.invariant (string_bytes lines) after
    (subst (λ (parts : List (List (List ℕ))). InsertsAll count c.loop-unit.seat parts (string_bytes lines) after)
    (sym (alone handful (into_iter_items left) none))
    (inserts_up_to count (string_bytes lines) 0 inserts.0 c.loop-unit.seat handful _ inserts.1 after
    c.in-Some-insert_handful-2.refused inserts.3 refl is []))) c.to_string-in-Some-insert_handful-2.ensures.ok

pub returns : goal.returns
returns g c =
    let count = length c.args.units.items in
    let after = c.insert_handful-2.new.seat in
    let handful = c.loop-unit.handful.items in
    let left = c.loop-unit.unit-iterator in
    let none = nil_from_length (into_iter_items left) (sym left.rest.ok.0 ∙ c.in-None.ensures.steps.0) in
    let inserts = c.in-None-insert_handful.ensures.inserted.1 in
    let all = ap loaded_line (c.len-count.ensures ∙ c.args.units.ok.0) in
    IfOk-weaker c.to_string-in-None-insert_handful.result _ _ (λ lines is. c.loop-unit.invariant (string_bytes lines) after
    (subst (λ (parts : List (List (List ℕ))). InsertsAll count c.loop-unit.seat parts (string_bytes lines) after)
    (sym (alone handful (into_iter_items left) none))
    (inserts_on count (string_bytes lines) 0 inserts.0 c.loop-unit.seat handful _ inserts.1 after inserts.3 refl []
    after (is ∙ all, refl)))) c.to_string-in-None-insert_handful.ensures.ok
