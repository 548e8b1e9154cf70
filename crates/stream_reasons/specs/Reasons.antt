-- Reasons as sentences.
use Rattle.std.specs.Prelude.{ℕ, ◌++◌, List, codes, decimal}
use Rattle.stream_reasons.specs.declared.reason.Reason.{Reason}
use Rattle.stream_reasons.specs.declared.reason.Reason.TheVariants.{Refused, StreamFull, Field, Set, Fault, FrameNumGap}
use Rattle.stream_reasons.specs.Sentences.{fault_sentence, field_text, refused_sentence, set_sentence}

-- the sentence of a reason, without its full stop
abbrev pub reason_text : Reason → List ℕ
reason_text (Refused refused) = refused_sentence refused
reason_text StreamFull = codes "there are more than 65,536 access units"
reason_text (Field field) = field_text field ++ codes " is out of its range (7.4.2)"
reason_text (Set fault) = set_sentence fault
reason_text (Fault fault) = fault_sentence fault
reason_text (FrameNumGap frame_num last next) = codes "frame_num is " ++ (decimal frame_num ++ (codes " and "
    ++ (decimal last ++ (codes " or " ++ (decimal next ++ codes " was expected: pictures are missing (7.4.3)")))))
