-- How the shapes of units are opened in a document.
use Rattle.std.specs.Prelude.{ℕ, ◌++◌, Bool, true, false, List, [], Option, None, Some, codes}
use Rattle.stream_svg.specs.declared.unit.EditMark.{EditMark}
use Rattle.stream_svg.specs.declared.unit.PictureState.{PictureState}
use Rattle.stream_svg.specs.declared.unit.PictureState.TheVariants.{Stayed, Pending}
use Rattle.stream_svg.specs.Escapes.{escaped}

-- the word for a unit that is altered, which the style sheet hatches
abbrev pub altered_word : Bool → List ℕ
altered_word true = codes " altered"
altered_word false = []

-- the word for what became of a picture
abbrev pub picture_word : Option PictureState → List ℕ
picture_word None = []
picture_word (Some Stayed) = codes " stayed"
picture_word (Some Pending) = codes " pending"

-- the classes of a unit's shapes: what edits did to it, where some were made
abbrev pub classes_of : Option EditMark → List ℕ
classes_of None = codes "u"
classes_of (Some mark) = codes "u" ++ (altered_word mark.altered ++ picture_word mark.picture)

-- how the shapes of a unit are opened: with their classes, and with the unit's lines as their title
abbrev pub opening_of : Option EditMark → List ℕ → List ℕ
opening_of mark lines = codes "<g class=\"" ++ (classes_of mark ++ (codes "\"><title>" ++ (escaped lines ++ codes "</title>")))
