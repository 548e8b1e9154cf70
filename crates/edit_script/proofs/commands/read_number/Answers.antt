use Rattle.std.proofs.Common.{◌≡◌, ◌<◌, ◌≤◌, ◌^◌, true, length, not, ◌==◌, ◌&&◌, nat_le, rules, arith, sym, ◌∙◌, refl}
use Rattle.std.specs.Char.{is_ascii_digit}
use Rattle.std.specs.List.{list_all}
use Rattle.std.specs.Str.Parse.{digits_value}
use Rattle.std.proofs.lemmas.Bool.{and_parts, not-true, eqb-false, leb-true}
use Rattle.std.proofs.lemmas.Str.Parse.{IsDigitsTest, IsNumeralModel, numerals_by_value, digits_value_short, parse_gives}
use Rattle.edit_script.specs.Words.{has_number}
use Rattle.edit_script.proofs.commands.read_number.Goals as goal

tells : IsDigitsTest (λ word. list_all is_ascii_digit word ≡ true)
tells = search rules

digits : IsNumeralModel (λ word. list_all is_ascii_digit word ≡ true) (digits_value 10)
digits = numerals_by_value _ tells

pub returns-then-is_number : goal.returns-then-is_number
returns-then-is_number c =
    let word = c.args.word.now in
    let yes : has_number word ≡ true = sym c.is_number.ensures ∙ c.if-is_number.true in
    let parts = and_parts (not (length word == 0) && nat_le (length word) 10) (list_all is_ascii_digit word) yes in
    let sizes = and_parts (not (length word == 0)) (nat_le (length word) 10) parts.0 in
    let nonempty = eqb-false (length word) 0 (not-true _ sizes.0) in
    let short : length word ≤ 10 = leb-true _ _ sizes.1 in
    let bound : digits_value 10 word < 10 ^ 10 = digits_value_short digits word 10 parts.1 short in
    let parsed = parse_gives digits 64 word c.parse.result c.parse.ensures.value.0 parts.1 (omega (arith, nonempty)) (omega (arith, bound)) in
    rw (c.ok.ensures.value, parsed, yes) refl
