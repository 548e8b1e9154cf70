-- The tables of kinds: containers by bytes at their places, byte streams by what stands after a start code.
use Rattle.std.specs.Prelude.{ℕ, List, [], ◌∷◌, ◌++◌, codes}
use Rattle.stream_reasons.specs.declared.file_kinds.kind.FileKind.{FileKind}
use Rattle.stream_reasons.specs.declared.file_kinds.kind.FileKind.TheVariants.{Mp4, Matroska, MpegTransportStream, MpegProgramStream, Avi, Flv, Ivf, Y4m, Ogg, HevcAnnexB, VvcAnnexB, Mpeg2, H264AnnexB}

-- bytes at a place, counted from 0
pub record PlacedBytes : Type 0 where
  pub at : ℕ
  pub bytes : List ℕ

-- a kind, and the marks that all stand in a file of it
pub record KindRow : Type 0 where
  pub kind : FileKind
  pub signatures : List PlacedBytes

-- one mark
abbrev pub signature : ℕ → List ℕ → PlacedBytes
signature at bytes = record { at = at; bytes = bytes }

-- a row
abbrev pub row : FileKind → List PlacedBytes → KindRow
row kind signatures = record { kind = kind; signatures = signatures }

-- the containers, the first that fits being meant
unfoldable pub containers : List KindRow
containers =
    -- the file type box (ISO/IEC 14496-12, 4.3) and the segment type box (8.16.2)
    row Mp4 (signature 4 (codes "ftyp") ∷ [])
    ∷ row Mp4 (signature 4 (codes "styp") ∷ [])
    -- files from before ftyp (Apple, QuickTime File Format Specification, "Movie Atoms", "Movie Data Atoms", "The Wide Atom")
    ∷ row Mp4 (signature 0 (0 ∷ []) ∷ signature 4 (codes "moov") ∷ [])
    ∷ row Mp4 (signature 4 (codes "mdat") ∷ [])
    ∷ row Mp4 (signature 0 (0 ∷ 0 ∷ 0 ∷ 8 ∷ codes "wide") ∷ [])
    -- free space of less than 65,536 bytes (ISO/IEC 14496-12, 8.1.2)
    ∷ row Mp4 (signature 0 (0 ∷ 0 ∷ []) ∷ signature 4 (codes "free") ∷ [])
    ∷ row Mp4 (signature 0 (0 ∷ 0 ∷ []) ∷ signature 4 (codes "skip") ∷ [])
    -- the id of the EBML element (IETF RFC 8794, 11.2.1), with which Matroska begins (RFC 9559, 4)
    ∷ row Matroska (signature 0 (26 ∷ 69 ∷ 223 ∷ 163 ∷ []) ∷ [])
    -- Microsoft, "AVI RIFF File Reference"
    ∷ row Avi (signature 0 (codes "RIFF") ∷ signature 8 (codes "AVI ") ∷ [])
    -- the signature and version 1 (Adobe Flash Video File Format Specification 10.1, E.2)
    ∷ row Flv (signature 0 (70 ∷ 76 ∷ 86 ∷ 1 ∷ []) ∷ [])
    -- the signature of the header of an IVF file (WebM project, libvpx, ivfenc.c)
    ∷ row Ivf (signature 0 (codes "DKIF") ∷ [])
    -- the word of a stream's header (MJPEG tools, yuv4mpeg(5))
    ∷ row Y4m (signature 0 (codes "YUV4MPEG2") ∷ [])
    -- the capture pattern of a page (IETF RFC 3533, 6)
    ∷ row Ogg (signature 0 (codes "OggS") ∷ [])
    -- pack_start_code (ITU-T H.222.0, 2.5.3.4)
    ∷ row MpegProgramStream (signature 0 (0 ∷ 0 ∷ 1 ∷ 186 ∷ []) ∷ [])
    -- sync_byte in each packet of 188 bytes (ITU-T H.222.0, 2.4.3.2): three of them
    ∷ row MpegTransportStream (signature 0 (71 ∷ []) ∷ signature 188 (71 ∷ []) ∷ signature 376 (71 ∷ []) ∷ [])
    -- the same with four bytes before each packet (Blu-ray Disc Association, white paper 2.B)
    ∷ row MpegTransportStream (signature 4 (71 ∷ []) ∷ signature 196 (71 ∷ []) ∷ signature 388 (71 ∷ []) ∷ [])
    ∷ []

-- what stands after a start code, and whose byte stream it tells
pub record HeaderRow : Type 0 where
  pub kind : FileKind
  pub bytes : List ℕ

-- a header
abbrev pub header : FileKind → List ℕ → HeaderRow
header kind bytes = record { kind = kind; bytes = bytes }

-- the headers
unfoldable pub headers : List HeaderRow
headers =
    -- a sequence parameter set (7), with nal_ref_idc 3, 2 or 1 (ITU-T H.264, 7.3.1 and table 7-1)
    header H264AnnexB (103 ∷ []) ∷ header H264AnnexB (71 ∷ []) ∷ header H264AnnexB (39 ∷ [])
    -- VPS (32), SPS (33), PPS (34), AUD (35) and prefix SEI (39) of layer 0 (ITU-T H.265, 7.3.1.2 and table 7-1)
    ∷ header HevcAnnexB (64 ∷ 1 ∷ []) ∷ header HevcAnnexB (66 ∷ 1 ∷ []) ∷ header HevcAnnexB (68 ∷ 1 ∷ [])
    ∷ header HevcAnnexB (70 ∷ 1 ∷ []) ∷ header HevcAnnexB (78 ∷ 1 ∷ [])
    -- OPI (12), DCI (13), VPS (14), SPS (15), PPS (16), prefix APS (17), AUD (20) and prefix SEI (23) of layer 0
    -- (ITU-T H.266, 7.3.1.2 and table 5)
    ∷ header VvcAnnexB (0 ∷ 97 ∷ []) ∷ header VvcAnnexB (0 ∷ 105 ∷ []) ∷ header VvcAnnexB (0 ∷ 113 ∷ [])
    ∷ header VvcAnnexB (0 ∷ 121 ∷ []) ∷ header VvcAnnexB (0 ∷ 129 ∷ []) ∷ header VvcAnnexB (0 ∷ 137 ∷ [])
    ∷ header VvcAnnexB (0 ∷ 161 ∷ []) ∷ header VvcAnnexB (0 ∷ 185 ∷ [])
    -- sequence_header_code (ITU-T H.262, 6.2.1 and table 6-1)
    ∷ header Mpeg2 (179 ∷ []) ∷ []
