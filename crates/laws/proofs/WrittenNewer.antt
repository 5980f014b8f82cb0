-- Demand 3 of what the writer makes: it is read back as sliced, and the exception of demand 3 is about compact records only.
use Rattle.std.specs.Prelude.{◌≡◌, refl, List, ℕ}
use Rattle.std.proofs.Common.{ap, ◌∙◌, arith}
use Rattle.encoding.specs.Slice.{Format, compact, sliced, format_number}
use Rattle.encoding.specs.Result.{ok}
use Rattle.encoding.specs.Message.{Pieces, Encoding, v11}
use Rattle.laws.specs.Demands.{read_as, Foreign, an_exception, a_class, from_above, Newer, NewerWritten}
use Rattle.laws.proofs.MessageNewer.{newer_read}
use Rattle.laws.proofs.WriteBack.{read_back}
use Rattle.laws.proofs.WriterAnswers.{encoding_one}

foreign_compact : {old : List ℕ} {f : Format} {p : Pieces} {place : ℕ} → Foreign old f p place → f ≡ compact
foreign_compact (an_exception e) = refl
foreign_compact (a_class e) = refl

pub newer_written : NewerWritten
newer_written old new top top' type count rs buffer room m E M yM h below =
    let R = read_back new top' type 1 count rs buffer room m h (from_above below (λ e. absurd (omega arith))) in
    let s : R.read.format ≡ v11 sliced = encoding_one R.read.format (v11 sliced) R.in_format in
    let p : Pieces = R.read.pieces in
    let N : Newer old new top top' m sliced p =
    record { extends = E; tops = M; bytes = yM; taken = R.taken; accepted = R.accepted ∙ ap (λ (f : Encoding). ok (read_as f p) R.taken) s } in
    (p, N, newer_read old new top top' m sliced p N (λ place F. let q : format_number sliced ≡ format_number compact = ap format_number (foreign_compact F) in omega arith))
