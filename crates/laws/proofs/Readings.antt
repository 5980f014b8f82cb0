-- The reader's answer: what the rules say of a message, the reader says where its list has room.
--
--   reads                  refusal 0 exactly if some pieces follow and their rows have room; the answer is theirs
--   read_back_reading      demand 2 of the answer to what the writer makes
--   newer_refused_reading  the exception of demand 3 of the answer
use Rattle.std.specs.Prelude.{◌≡◌, refl, List, ℕ, suc, ◌*◌, ◌/◌, ◌≤◌, length}
use Rattle.std.proofs.Common.{sym, ap, subst, arith}
use borrow.Author.Tests.{le-leb}
use Rattle.encoding.specs.Result.{ok, bad}
use Rattle.encoding.specs.Message.{Pieces, Encoding, Read, Row, rules, rows, Answer, refused, accepted, answer, room, within, reading}
use Rattle.laws.specs.Demands.{read_as, AnswerOf, Readable, Reads, SameMembers, no_members, same_member, row_list, ReadBackAnswer, ReadBackReading, NewerRefusedReading}
use Rattle.laws.proofs.Refusals.{Answered, yes_read, not_read, answered, reader_number}
use Rattle.laws.proofs.MessageExact.{exact_message}
use Rattle.laws.proofs.WriteBack.{read_back}
use Rattle.laws.proofs.WriterRefusals.{length_row_list}
use Rattle.laws.proofs.MessageNewer.{newer_refused}

module _ (T : List ℕ) (top : ℕ) (m : List ℕ) (bytes : ℕ) where
  -- an accepted message whose rows have room
  reading_accepted : {r : Read} {n : ℕ} → rules T top m ≡ ok r n → 12 * length (rows T top r.format r.pieces) ≤ bytes → reading T top m bytes ≡ accepted T top r
  unfolding reading within answer accepted room
  reading_accepted {r} h l = rw (h, le-leb (length (rows T top r.format r.pieces)) (bytes / 12) (omega arith))

  reading_refused : {n p : ℕ} → rules T top m ≡ bad n p → reading T top m bytes ≡ refused n p
  unfolding reading within answer refused room
  reading_refused h = rw (h, le-leb 0 (bytes / 12) (omega arith))

accepted_answer : (T : List ℕ) (top : ℕ) (f : Encoding) (p : Pieces) → AnswerOf T top f p (accepted T top (read_as f p))
unfolding accepted
accepted_answer T top f p = record { refusal = refl; place = refl; type = refl; format = refl; all_listed = refl; optionals = refl; slices = refl }

pub reads : Reads
unfolding accepted refused
reads T top m bytes y = (λ h. found (reading T top m bytes) (answered T top m bytes) h, given)
  where
    found : (a : Answer) → Answered T top m bytes a → a.refusal ≡ 0 → (f : Encoding) × (p : Pieces) × Readable T top m bytes f p
    found a (yes_read {r} {n} e l) h = (r.format, r.pieces, record { follows = ((exact_message T top m r.format r.pieces n y).0 e).0; fits = l })
    found a (not_read R) h = absurd (omega (arith, reader_number R))

    given : (f : Encoding) (p : Pieces) → Readable T top m bytes f p → AnswerOf T top f p (reading T top m bytes)
    given f p R =
        subst (AnswerOf T top f p) (sym (reading_accepted T top m bytes ((exact_message T top m f p (length m) y).1 R.follows) R.fits)) (accepted_answer T top f p)

-- ---- demand 2

same_length : {m m' : List ℕ} {rs rs' : List Row} → SameMembers m m' rs rs' → length rs' ≡ length rs
same_length no_members = refl
same_length (same_member a b c S) = ap suc (same_length S)

pub read_back_reading : ReadBackReading
unfolding accepted
read_back_reading T top type format count rs buffer space m h b bytes l =
    let R = read_back T top type format count rs buffer space m h b in
    subst (λ (a : Answer). ReadBackAnswer type format (row_list count rs) buffer m a)
    (sym (reading_accepted T top m bytes R.accepted (omega (arith, same_length R.members, length_row_list count rs))))
    (record { accepted = refl; of_type = R.of_type; in_format = R.in_format; no_optional_skipped = R.complete.optionals; no_slice_skipped = R.complete.slices; members = R.members })

-- ---- demand 3

pub newer_refused_reading : NewerRefusedReading
unfolding refused
newer_refused_reading old new top top' m f p N place F lent =
    let e = reading_refused old top m lent (newer_refused old new top top' m f p N place F) in
    (ap (λ (a : Answer). a.refusal) e, ap (λ (a : Answer). a.place) e)
