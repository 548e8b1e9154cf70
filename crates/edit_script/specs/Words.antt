-- The words of a script's line (docs/OUTPUT.md).
use Rattle.std.specs.Prelude.{ℕ, ◌==◌, ◌&&◌, ◌^◌, ◌++◌, not, nat_lt, nat_le, Bool, List, [], ◌∷◌, length, map, Option, Some, None, if◌then◌else◌}
use Rattle.std.specs.Borrow.{Bor}
use Rattle.std.specs.Char.{is_ascii_digit}
use Rattle.std.specs.List.{filter, list_all, slice_split}
use Rattle.std.specs.Result.{result_ok}
use Rattle.std.specs.Str.Parse.{digits_value}
use Rattle.hex.specs.Hex.{decode_of}
use Rattle.hex.specs.declared.error.FromHexError.{FromHexError}
use Rattle.hex.specs.declared.error.FromHexError.TheVariants.{OutOfMemory}
use Rattle.edit_script.specs.declared.commands.LineFault.{LineFault}
use Rattle.edit_script.specs.declared.commands.LineFault.TheVariants.{Wrong, Memory}

-- the texts that are lent
abbrev pub texts_of : List (Bor (List ℕ)) → List (List ℕ)
texts_of words = map (λ word. word.now) words

-- whether there's a byte
abbrev pub has_bytes : List ℕ → Bool
has_bytes word = not (length word == 0)

-- what stands between spaces
abbrev pub words_of : List ℕ → List (List ℕ)
words_of line = filter has_bytes (slice_split (λ byte. byte == 32) line)

-- one to ten digits
abbrev pub has_number : List ℕ → Bool
has_number word = not (length word == 0) && nat_le (length word) 10 && list_all is_ascii_digit word

-- the number that one to ten digits write
abbrev pub number_of : List ℕ → Option ℕ
number_of word = if has_number word then Some (digits_value 10 word) else None

-- the id of a number; 0, which no unit has, for one that is too great for an id
abbrev pub id_of : ℕ → ℕ
id_of number = if nat_lt number (2 ^ 32) then number else 0

-- one text after the other, where both are there
abbrev pub both : Option (List ℕ) → Option (List ℕ) → Option (List ℕ)
both (Some front) (Some rest) = Some (front ++ rest)
both (Some front) None = None
both None rest = None

-- the bytes that words of pairs of hexadecimal digits stand for
abbrev pub hex_of : List (List ℕ) → Option (List ℕ)
hex_of [] = Some []
hex_of (word ∷ words) = both (result_ok (decode_of word)) (hex_of words)

-- where digits aren't pairs of hexadecimal ones, the line is wrong
abbrev pub fault_of : FromHexError → LineFault
fault_of OutOfMemory = Memory
fault_of _ = Wrong
