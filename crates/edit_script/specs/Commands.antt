-- The command that words are (docs/OUTPUT.md).
use Rattle.std.specs.Prelude.{◌≡◌, ℕ, Bool, true, false, List, [], ◌∷◌, codes, Option, Some, None, option_map, if◌then◌else◌, Result, MatchResult}
use Rattle.std.specs.Global.{Vec}
use Rattle.std.specs.Str.{bytes_eq}
use Rattle.stream_edits.specs.declared.edits.Edit.{Edit}
use Rattle.stream_edits.specs.declared.edits.Edit.TheVariants.{Insert, Delete, Replace}
use Rattle.stream_edits.specs.declared.edits.InsertionPoint.{InsertionPoint}
use Rattle.stream_edits.specs.declared.edits.InsertionPoint.TheVariants.{First, After}
use Rattle.edit_script.specs.declared.commands.Command.{Command}
use Rattle.edit_script.specs.declared.commands.Command.TheVariants as command
use Rattle.edit_script.specs.declared.commands.LineFault.{LineFault}
use Rattle.edit_script.specs.declared.commands.LineFault.TheVariants.{Wrong}
use Rattle.edit_script.specs.Words.{number_of, id_of, hex_of, both}

-- the id that a word is
abbrev pub id_of_word : List ℕ → Option ℕ
id_of_word word = option_map id_of (number_of word)

-- the deletion that the words after `delete` ask for
abbrev pub deletion_of : List (List ℕ) → Option Edit
deletion_of (id ∷ []) = option_map Delete (id_of_word id)
deletion_of words = None

-- the insertion of a text at a place, where both are there
abbrev pub insert_at : Option InsertionPoint → Option (List ℕ) → Option Edit
insert_at (Some place) (Some text) = Some (Insert place text)
insert_at (Some place) None = None
insert_at None text = None

-- the insertion that the words after `insert after` ask for
abbrev pub insertion_after : List (List ℕ) → Option Edit
insertion_after [] = None
insertion_after (id ∷ text) = insert_at (option_map After (id_of_word id)) (hex_of text)

-- the insertion that the words after `insert` ask for
abbrev pub insertion_of : List (List ℕ) → Option Edit
insertion_of [] = None
insertion_of (place ∷ words) =
    if bytes_eq place (codes "first") then insert_at (Some First) (hex_of words)
    else if bytes_eq place (codes "after") then insertion_after words
    else None

-- the replacement of a unit by a text, where both are there
abbrev pub replace_by : Option ℕ → Option (List ℕ) → Option Edit
replace_by (Some id) (Some text) = Some (Replace id text)
replace_by (Some id) None = None
replace_by None text = None

-- the replacement that the words after `replace` ask for
abbrev pub replacement_of : List (List ℕ) → Option Edit
replacement_of [] = None
replacement_of (id ∷ text) = replace_by (id_of_word id) (hex_of text)

-- the edit that words ask for
abbrev pub edit_of : List (List ℕ) → Option Edit
edit_of [] = None
edit_of (name ∷ words) =
    if bytes_eq name (codes "insert") then insertion_of words
    else if bytes_eq name (codes "delete") then deletion_of words
    else if bytes_eq name (codes "replace") then replacement_of words
    else None

-- the name of the file that words load
abbrev pub path_of : List (List ℕ) → Option (List ℕ)
path_of (name ∷ path ∷ []) = if bytes_eq name (codes "load") then Some path else None
path_of words = None

-- the number that words have after this name, the two alone
abbrev pub number_after : List ℕ → List (List ℕ) → Option ℕ
number_after name (word ∷ number ∷ []) = if bytes_eq word name then number_of number else None
number_after name words = None

-- whether words are this name alone
abbrev pub are_alone : List ℕ → List (List ℕ) → Bool
are_alone name (word ∷ []) = bytes_eq word name
are_alone name words = false

-- the ids that words are, where each of them is one
abbrev pub ids_of_words : List (List ℕ) → Option (List ℕ)
ids_of_words [] = Some []
ids_of_words (word ∷ words) = both (option_map (λ id. id ∷ []) (id_of_word word)) (ids_of_words words)

-- the ids that words have after `want`
abbrev pub wanted_of : List (List ℕ) → Option (List ℕ)
wanted_of [] = None
wanted_of (name ∷ ids) = if bytes_eq name (codes "want") then ids_of_words ids else None

-- whether a word says that something is on
abbrev pub switch_of : List ℕ → Option Bool
switch_of word =
    if bytes_eq word (codes "on") then Some true
    else if bytes_eq word (codes "off") then Some false
    else None

-- whether words say that the rest is on
abbrev pub rest_of : List (List ℕ) → Option Bool
rest_of (name ∷ word ∷ []) = if bytes_eq name (codes "rest") then switch_of word else None
rest_of words = None

-- the words are this command, which is no group
abbrev pub IsCommand : List (List ℕ) → Command → Type 0
IsCommand words (command.Edit edit) = edit_of words ≡ Some edit
IsCommand words (command.Group edits) = ⊥
IsCommand words (command.Load path) = path_of words ≡ Some path.now
IsCommand words (command.Unit number) = number_after (codes "unit") words ≡ Some number
IsCommand words (command.Json number) = number_after (codes "json") words ≡ Some number
IsCommand words command.Take = are_alone (codes "take") words ≡ true
IsCommand words (command.TakeFor number) = number_after (codes "take") words ≡ Some number
IsCommand words (command.Land number) = number_after (codes "land") words ≡ Some number
IsCommand words (command.GiveBack number) = number_after (codes "give") words ≡ Some number
IsCommand words command.Settle = are_alone (codes "settle") words ≡ true
IsCommand words (command.SettleFor number) = number_after (codes "settle") words ≡ Some number
IsCommand words (command.Show number) = number_after (codes "show") words ≡ Some number
IsCommand words (command.Drop number) = number_after (codes "drop") words ≡ Some number
IsCommand words command.Clear = are_alone (codes "clear") words ≡ true
IsCommand words command.Mark = are_alone (codes "mark") words ≡ true
IsCommand words (command.Altered number) = number_after (codes "altered") words ≡ Some number
IsCommand words (command.Want ids) = wanted_of words ≡ Some ids.items
IsCommand words (command.Rest rest) = rest_of words ≡ Some rest

-- the words are no command
abbrev pub IsNoCommand : List (List ℕ) → Type 0
IsNoCommand words = (edit_of words ≡ None) × (path_of words ≡ None)
    × (number_after (codes "unit") words ≡ None) × (number_after (codes "json") words ≡ None)
    × (are_alone (codes "take") words ≡ false) × (number_after (codes "take") words ≡ None)
    × (number_after (codes "land") words ≡ None) × (number_after (codes "give") words ≡ None)
    × (are_alone (codes "settle") words ≡ false) × (number_after (codes "settle") words ≡ None)
    × (number_after (codes "show") words ≡ None) × (number_after (codes "drop") words ≡ None)
    × (are_alone (codes "clear") words ≡ false)
    × (are_alone (codes "mark") words ≡ false) × (number_after (codes "altered") words ≡ None)
    × (wanted_of words ≡ None) × (rest_of words ≡ None)

-- an answer for words that may be digits: what they stand for; wrong where they stand for nothing
abbrev pub IsHexAnswer : Option (List ℕ) → Result (List ℕ) LineFault → Type 0
IsHexAnswer text answer = MatchResult answer (λ it. text ≡ Some it) (λ fault. fault ≡ Wrong → text ≡ None)

-- an answer for words that may be ids
abbrev pub IsIdsAnswer : Option (List ℕ) → Result (Vec ℕ) LineFault → Type 0
IsIdsAnswer ids answer = MatchResult answer (λ it. ids ≡ Some it.items) (λ fault. fault ≡ Wrong → ids ≡ None)

-- an answer for words that may ask for an edit
abbrev pub IsEditAnswer : Option Edit → Result Edit LineFault → Type 0
IsEditAnswer edit answer = MatchResult answer (λ it. edit ≡ Some it) (λ fault. fault ≡ Wrong → edit ≡ None)

-- an answer for words that may be a command
abbrev pub IsCommandAnswer : List (List ℕ) → Result Command LineFault → Type 0
IsCommandAnswer words answer = MatchResult answer (IsCommand words) (λ fault. fault ≡ Wrong → IsNoCommand words)
