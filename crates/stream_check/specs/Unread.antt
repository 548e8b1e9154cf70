-- What is left out of a stream.
use Rattle.stream_mending.specs.declared.why.LeftOut.{LeftOut}
use Rattle.stream_check.specs.declared.unread.Unread.{Unread}

-- what is left out, without its reason
abbrev pub left_out_of : Unread → LeftOut
left_out_of unread = unread.left_out
