-- The state of a decoder of any encoding.
use Rattle.enc_model.specs.Decode.{Decoding, OfUtf8, OfUtf16, OfShiftJis, OfEucJp, OfIso2022, OfSingle}
use Rattle.enc_model.specs.Japanese.{SingleState}
use Rattle.enc_stream.specs.declared.decoder.AnyDecoder.{AnyDecoder}
use Rattle.enc_stream.specs.declared.decoder.AnyDecoder.TheVariants.{Utf8, Utf16, ShiftJis, EucJp, Iso2022, Single}

-- The state, with its encoding.
abbrev pub decoding_of : AnyDecoder → Decoding
decoding_of (Utf8 s) = OfUtf8 s
decoding_of (Utf16 s) = OfUtf16 s.big s.state
decoding_of (ShiftJis s) = OfShiftJis s
decoding_of (EucJp s) = OfEucJp s
decoding_of (Iso2022 s) = OfIso2022 s
decoding_of (Single e) = OfSingle e SingleState
