-- What is said of kinds of files.
use Rattle.std.specs.Prelude.{◌≡◌, ℕ, List, codes, Option, None, Some}
use Rattle.stream_reasons.specs.declared.file_kinds.kind.FileKind.{FileKind}
use Rattle.stream_reasons.specs.declared.file_kinds.kind.FileKind.TheVariants.{Mp4, Matroska, MpegTransportStream, MpegProgramStream, Avi, Flv, Ivf, Y4m, Ogg, HevcAnnexB, VvcAnnexB, Mpeg2, LengthPrefixedH264, H264AnnexB, Text, Empty, Directory, Unknown}

-- the name for a program
abbrev pub name_of : FileKind → List ℕ
name_of Mp4 = codes "Mp4"
name_of Matroska = codes "Matroska"
name_of MpegTransportStream = codes "MpegTransportStream"
name_of MpegProgramStream = codes "MpegProgramStream"
name_of Avi = codes "Avi"
name_of Flv = codes "Flv"
name_of Ivf = codes "Ivf"
name_of Y4m = codes "Y4m"
name_of Ogg = codes "Ogg"
name_of HevcAnnexB = codes "HevcAnnexB"
name_of VvcAnnexB = codes "VvcAnnexB"
name_of Mpeg2 = codes "Mpeg2"
name_of LengthPrefixedH264 = codes "LengthPrefixedH264"
name_of H264AnnexB = codes "H264AnnexB"
name_of Text = codes "Text"
name_of Empty = codes "Empty"
name_of Directory = codes "Directory"
name_of Unknown = codes "Unknown"

-- what the file is, in a sentence
abbrev pub sentence_of : FileKind → List ℕ
sentence_of Mp4 = codes "an MP4 or MOV file, a container"
sentence_of Matroska = codes "a Matroska or WebM file, a container"
sentence_of MpegTransportStream = codes "an MPEG transport stream, a container"
sentence_of MpegProgramStream = codes "an MPEG program stream, a container of MPEG-1 or MPEG-2 video"
sentence_of Avi = codes "an AVI file, a container"
sentence_of Flv = codes "a Flash Video file, a container"
sentence_of Ivf = codes "an IVF file, which holds VP8, VP9 or AV1"
sentence_of Y4m = codes "a YUV4MPEG2 file, which holds uncompressed pictures"
sentence_of Ogg = codes "an Ogg file, a container that doesn't hold H.264"
sentence_of HevcAnnexB = codes "HEVC (H.265) video"
sentence_of VvcAnnexB = codes "VVC (H.266) video"
sentence_of Mpeg2 = codes "MPEG-1 or MPEG-2 video"
sentence_of LengthPrefixedH264 = codes "H.264 with a length before each NAL unit in place of a start code"
sentence_of H264AnnexB = codes "a byte stream of H.264 (Annex B)"
sentence_of Text = codes "a text file"
sentence_of Empty = codes "an empty file"
sentence_of Directory = codes "a directory"
sentence_of Unknown = codes "a file of an unknown kind"

-- copies the video
abbrev pub copying : List ℕ
copying = codes "ffmpeg -i FILE -map 0:v:0 -c copy -f h264 OUT.264"

-- encodes it anew
abbrev pub encoding : List ℕ
encoding = codes "ffmpeg -i FILE -map 0:v:0 -c:v libx264 -pix_fmt yuv420p -f h264 OUT.264"

-- the command of ffmpeg for a file of the kind
abbrev pub command_for : FileKind → Option (List ℕ)
command_for Mp4 = Some copying
command_for Matroska = Some copying
command_for MpegTransportStream = Some copying
command_for MpegProgramStream = Some encoding
command_for Avi = Some copying
command_for Flv = Some copying
command_for Ivf = Some encoding
command_for Y4m = Some encoding
command_for Ogg = Some encoding
command_for HevcAnnexB = Some encoding
command_for VvcAnnexB = None
command_for Mpeg2 = Some encoding
command_for LengthPrefixedH264 = None
command_for H264AnnexB = None
command_for Text = None
command_for Empty = None
command_for Directory = None
command_for Unknown = None
