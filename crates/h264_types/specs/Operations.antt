-- Memory management control operations (ITU-T H.264, 7.4.3.3).
use Rattle.std.specs.Prelude.{ℕ}

-- how many a picture has at most; the limit is this program's own
abbrev pub most_operations : ℕ
most_operations = 64
