-- The slice of a name in the bytes of slices, and the whole message with its bytes exchanged: the encoding of the edited pieces.
--
--   whole, laid             slices as they are laid one after another
--   slices_laid             the encoding of slices
--   seek_laid               the slice of a name is found there
--   list_spliced_lem            a parameter list with one optional exchanged
--   slices_spliced          a record with one optional of a slice exchanged
use Rattle.std.specs.Prelude.{◌≡◌, Bool}
use Rattle.std.proofs.Math.Path.{refl, sym, ap}
use Rattle.std.proofs.Common.{ap₂, ◌∙◌, arith}
use Rattle.std.proofs.Math.Bool.{true, false}
use Rattle.std.proofs.Math.Option.{Option, some}
use mathlib.Core.List.{List, [], ◌∷◌, ◌++◌, append_assoc}
use Prim.Native.Nat.{ℕ, zero, suc, ◌+◌, ◌-◌, ◌<◌}
use Rattle.std.proofs.Math.ListN.{length, drop, length-append}
use Rattle.std.proofs.Math.Seq.{drop_at}
use Rattle.encoding.specs.Result.{ok, pick, concat, same_bytes, chunk}
use Rattle.encoding.proofs.ResultLaws.{same_bytes_ok, same_bytes_same, item_step, bind_written, chunk_written}
use Rattle.encoding.specs.Number.{Short, le_bytes, size, size_bytes, declared, string_bytes}
use Rattle.encoding.proofs.NumberLaws.{length_le_bytes, size_written, declared_written}
use Rattle.encoding.specs.Types.{vsize}
use Rattle.encoding.specs.Optional.{Piece, extent, piece_bytes}
use Rattle.encoding.specs.Slice.{sliced, Slice, known, Stand, first, later, due, has_optionals, any_optional, id_of, data_bytes, flag_bits, slice_front, is_last}
use Rattle.encoding.specs.Message.{v11, encapsulate, slices_bytes}
use Rattle.encoding.proofs.MessageLaws.{length_encapsulate}
use Rattle.laws.specs.Demands.{All, more}
use Rattle.edit.specs.Change.{edit_pieces}
use Rattle.edit.proofs.EditLaws.{Unlike}
use Rattle.edit.specs.Place.{Gap, gap, cut_end, has_marker, flagged, size_read, id_read, seek_slice, list_spliced, slice_spliced}
use Rattle.edit.proofs.GapLaws.{before, here_at, behind, cut_of}
use Rattle.edit.proofs.SpliceLaws.{slice_segments, list_segments, fresh_bytes, is_setting, mark, bytes_cut, bytes_now, DataCut}

-- ---- slices one after another

-- a slice with its size, before further bytes
unfoldable pub whole : Bool → Slice → List ℕ → List ℕ
whole last s r = flag_bits sliced true (has_optionals s) last ∷ (string_bytes (id_of s) ++ (le_bytes 4 (4 + length (data_bytes s)) ++ (data_bytes s ++ r)))

-- slices that others follow
unfoldable pub laid : List Slice → List ℕ → List ℕ
laid [] r = r
laid (s ∷ a) r = whole false s (laid a r)

whole_one : (st : Stand) (last : Bool) (s : Slice) (r : List ℕ) → slice_front sliced st last s ++ data_bytes s ++ r ≡ whole last s r
unfolding whole slice_front due
whole_one st last s r =
    ap (λ (q : Bool). (flag_bits sliced q (has_optionals s) last ∷ (pick q (string_bytes (id_of s)) [] ++ le_bytes 4 (4 + length (data_bytes s)))) ++ data_bytes s ++ r) (due_sliced st)
    ∙ ap (λ (z : List ℕ). flag_bits sliced true (has_optionals s) last ∷ z)
    (append_assoc (string_bytes (id_of s) ++ le_bytes 4 (4 + length (data_bytes s))) (data_bytes s) r ∙ append_assoc (string_bytes (id_of s)) (le_bytes 4 (4 + length (data_bytes s))) (data_bytes s ++ r))
  where
    due_sliced : (st : Stand) → due st sliced ≡ true
    due_sliced first = refl
    due_sliced (later h) = refl

more_follow : (a : List Slice) (s : Slice) (b : List Slice) → is_last (a ++ (s ∷ b)) ≡ false
unfolding is_last
more_follow [] s b = refl
more_follow (t ∷ a) s b = refl

pub slices_laid : (st : Stand) (a : List Slice) (s : Slice) (b : List Slice) → slices_bytes (v11 sliced) st (a ++ (s ∷ b)) ≡ laid a (whole (is_last b) s (slices_bytes (v11 sliced) (later sliced) b))
unfolding slices_bytes laid
slices_laid st [] s b = whole_one st (is_last b) s (slices_bytes (v11 sliced) (later sliced) b)
slices_laid st (t ∷ a) s b =
    ap (λ (q : Bool). slice_front sliced st q t ++ data_bytes t ++ slices_bytes (v11 sliced) (later sliced) (a ++ (s ∷ b))) (more_follow a s b)
    ∙ whole_one st false t (slices_bytes (v11 sliced) (later sliced) (a ++ (s ∷ b))) ∙ ap (whole false t) (slices_laid (later sliced) a s b)

whole_append : (last : Bool) (s : Slice) (x y : List ℕ) → whole last s (x ++ y) ≡ whole last s x ++ y
unfolding whole
whole_append last s x y =
    ap (λ (z : List ℕ). flag_bits sliced true (has_optionals s) last ∷ z)
    (sym (append_assoc (string_bytes (id_of s)) _ y ∙ ap (λ (z : List ℕ). string_bytes (id_of s) ++ z) (append_assoc (le_bytes 4 (4 + length (data_bytes s))) _ y ∙ ap (λ (z : List ℕ). le_bytes 4 (4 + length (data_bytes s)) ++ z) (append_assoc (data_bytes s) x y))))

pub laid_append : (a : List Slice) (r : List ℕ) → laid a r ≡ laid a [] ++ r
unfolding laid
laid_append [] r = refl
laid_append (s ∷ a) r = ap (whole false s) (laid_append a r) ∙ whole_append false s (laid a []) r

-- ---- the slice of a name

pub string_read : (id r : List ℕ) → Short (length id) → extent vsize (string_bytes id ++ r) ≡ ok id (length (string_bytes id))
unfolding extent string_bytes
string_read id r h = item_step _ (size_bytes (length id) ++ id ++ r) (bind_written size (λ n. chunk n (λ b. b)) (size_bytes (length id)) id r (size_written (length id) (id ++ r) h) (chunk_written (length id) (λ b. b) id r refl))

string_length : (b : List ℕ) → length (string_bytes b) ≡ length (size_bytes (length b)) + length b
unfolding string_bytes
string_length b = length-append (size_bytes (length b)) b

-- the lengths of a slice's parts
pub whole_length : (last : Bool) (s : Slice) (r : List ℕ) → length (whole last s r) ≡ 1 + length (string_bytes (id_of s)) + (4 + length (data_bytes s)) + length r
unfolding whole
whole_length last s r =
    let d : List ℕ = data_bytes s in
    omega (arith, length-append (string_bytes (id_of s)) (le_bytes 4 (4 + length d) ++ (d ++ r)), length-append (le_bytes 4 (4 + length d)) (d ++ r), length-append d r, length_le_bytes 4 (4 + length d))

module _ (nm : List ℕ) where
  seek_one : (f at : ℕ) (last : Bool) (s : Slice) (r : List ℕ) → Short (length (whole last s r))
      → seek_slice nm (suc f) at (whole last s r)
      ≡ pick (same_bytes (id_of s) nm) (some (record { flags = at; size = at + 1 + length (string_bytes (id_of s)); end = at + 1 + length (string_bytes (id_of s)) + (4 + length (data_bytes s)) }))
      (seek_slice nm f (at + 1 + length (string_bytes (id_of s)) + (4 + length (data_bytes s))) r)
  unfolding whole seek_slice id_read size_read
  seek_one f at last s r h =
      let i : List ℕ = string_bytes (id_of s) in
      let d : List ℕ = data_bytes s in
      let z : List ℕ = le_bytes 4 (4 + length d) in
      let n = whole_length last s r in
      let l : Short (length (id_of s)) = omega (arith, n, h, string_length (id_of s)) in
      let e : declared 4 4 (z ++ (d ++ r)) ≡ ok d (4 + length d) = ap (declared 4 4) (sym (append_assoc z d r)) ∙ declared_written 4 4 d r (omega arith) (omega arith) (omega (arith, n, h)) in
      let g : drop (4 + length d) (z ++ (d ++ r)) ≡ r = ap (drop (4 + length d)) (sym (append_assoc z d r)) ∙ drop_at (z ++ d) r (4 + length d) (omega (arith, length-append z d, length_le_bytes 4 (4 + length d))) in
      ap (λ w. id_read nm at (i ++ (z ++ (d ++ r))) w (λ a ys. seek_slice nm f a ys)) (string_read (id_of s) (z ++ (d ++ r)) l)
      ∙ ap (λ (y : List ℕ). size_read nm at (at + 1 + length i) (id_of s) y (declared 4 4 y) (λ a ys. seek_slice nm f a ys)) (drop_at i (z ++ (d ++ r)) (length i) refl)
      ∙ ap (λ w. size_read nm at (at + 1 + length i) (id_of s) (z ++ (d ++ r)) w (λ a ys. seek_slice nm f a ys)) e
      ∙ ap (λ (y : List ℕ). pick (same_bytes (id_of s) nm) (some (record { flags = at; size = at + 1 + length i; end = at + 1 + length i + (4 + length d) })) (seek_slice nm f (at + 1 + length i + (4 + length d)) y)) g

  pub seek_laid : (a : List Slice) (f at : ℕ) (last : Bool) (ps : List Piece) (r : List ℕ) → All (Unlike nm) a → length a < f → Short (length (laid a (whole last (known nm ps) r)))
      → seek_slice nm f at (laid a (whole last (known nm ps) r))
      ≡ some (record { flags = at + length (laid a []); size = at + length (laid a []) + 1 + length (string_bytes nm); end = at + length (laid a []) + 1 + length (string_bytes nm) + (4 + length (data_bytes (known nm ps))) })
  unfolding laid id_of
  seek_laid [] zero at last ps r U h sh = absurd (omega arith)
  seek_laid [] (suc f) at last ps r U h sh =
      seek_one f at last (known nm ps) r sh ∙ ap (λ (q : Bool). pick q (some (record { flags = at; size = at + 1 + length (string_bytes nm); end = at + 1 + length (string_bytes nm) + (4 + length (data_bytes (known nm ps))) })) (seek_slice nm f (at + 1 + length (string_bytes nm) + (4 + length (data_bytes (known nm ps)))) r)) (same_bytes_same nm nm refl)
      ∙ ap (λ (n : ℕ). some (record { flags = n; size = n + 1 + length (string_bytes nm); end = n + 1 + length (string_bytes nm) + (4 + length (data_bytes (known nm ps))) })) (omega arith)
  seek_laid (s ∷ a) zero at last ps r U h sh = absurd (omega arith)
  seek_laid (s ∷ a) (suc f) at last ps r (more u U) h sh =
      let R : List ℕ = laid a (whole last (known nm ps) r) in
      let n : ℕ = at + 1 + length (string_bytes (id_of s)) + (4 + length (data_bytes s)) in
      let w = whole_length false s R in
      let v = whole_length false s (laid a []) in
      let e : n + length (laid a []) ≡ at + length (whole false s (laid a [])) = omega (arith, v) in
      seek_one f at false s R sh ∙ ap (λ (q : Bool). pick q (some (record { flags = at; size = at + 1 + length (string_bytes (id_of s)); end = n })) (seek_slice nm f n R)) (unlike (id_of s) u)
      ∙ seek_laid a f n last ps r U (omega arith) (omega (arith, w, sh))
      ∙ ap (λ (z : ℕ). some (record { flags = z; size = z + 1 + length (string_bytes nm); end = z + 1 + length (string_bytes nm) + (4 + length (data_bytes (known nm ps))) })) e
    where
      unlike : (i : List ℕ) → (i ≡ nm → ⊥) → same_bytes i nm ≡ false
      unlike i d = go (same_bytes i nm) refl
        where
          go : (q : Bool) → same_bytes i nm ≡ q → q ≡ false
          go true e = absurd (d (same_bytes_ok i nm e))
          go false e = refl

-- ---- the message with one optional exchanged

pub list_spliced_lem : (k : ℕ) (new : Option Piece) (ps : List Piece) → list_spliced (6 + (cut_of k ps).from) (6 + (cut_of k ps).to) (fresh_bytes new) (encapsulate (v11 sliced) (concat piece_bytes ps)) ≡ encapsulate (v11 sliced) (concat piece_bytes (edit_pieces k new ps))
unfolding encapsulate gap
list_spliced_lem k new ps =
    list_segments (le_bytes 4 (6 + length c)) (1 ∷ 1 ∷ B) H R N (le_bytes 4 (6 + length c) ++ (1 ∷ 1 ∷ c)) (6 + length B) (6 + (length B + length H))
    (ap (λ (z : List ℕ). le_bytes 4 (6 + length c) ++ (1 ∷ 1 ∷ z)) old) (length_le_bytes 4 (6 + length c)) (omega arith) (omega arith)
    ∙ ap₂ (λ (n : ℕ) (z : List ℕ). le_bytes 4 n ++ (1 ∷ 1 ∷ z)) sizes (sym now)
  where
    c : List ℕ
    c = concat piece_bytes ps

    B : List ℕ
    B = concat piece_bytes (before k ps)

    H : List ℕ
    H = concat piece_bytes (here_at k ps)

    R : List ℕ
    R = concat piece_bytes (behind k ps)

    N : List ℕ
    N = fresh_bytes new

    old : c ≡ B ++ (H ++ R)
    old = bytes_cut k ps

    now : concat piece_bytes (edit_pieces k new ps) ≡ B ++ (N ++ R)
    now = bytes_now k ps new

    sizes : length (le_bytes 4 (6 + length c) ++ (1 ∷ 1 ∷ c)) - length H + length N ≡ 6 + length (concat piece_bytes (edit_pieces k new ps))
    sizes =
        omega (arith, length-append (le_bytes 4 (6 + length c)) (1 ∷ 1 ∷ c), length_le_bytes 4 (6 + length c), ap length old, length-append B (H ++ R), length-append H R, ap length now, length-append B (N ++ R), length-append N R)

module _ (pre : List ℕ) (a : List Slice) (nm : List ℕ) (last : Bool) (r : List ℕ) where
  -- the places
  abbrev pub flags_at : ℕ
  flags_at = 6 + length pre + length (laid a [])

  abbrev pub size_at : ℕ
  size_at = flags_at + 1 + length (string_bytes nm)

  abbrev pub end_at : List Piece → ℕ
  end_at qs = size_at + (4 + length (data_bytes (known nm qs)))

  abbrev D : List Piece → List ℕ
  D qs = data_bytes (known nm qs)

  abbrev pub message : List Piece → List ℕ
  message qs = encapsulate (v11 sliced) (pre ++ laid a (whole last (known nm qs) r))

  abbrev A : List ℕ
  A = 1 ∷ 1 ∷ (pre ++ laid a [])

  -- a message in segments, where the slice's data is in two parts
  pub spelt : (qs : List Piece) (x y z : List ℕ) → D qs ≡ x ++ (y ++ z)
      → message qs ≡ le_bytes 4 (6 + length (pre ++ laid a (whole last (known nm qs) r))) ++ (A ++ (flag_bits sliced true (any_optional qs) last ∷ (string_bytes nm ++ (le_bytes 4 (4 + length (D qs)) ++ (x ++ (y ++ (z ++ r)))))))
  unfolding encapsulate whole has_optionals id_of
  spelt qs x y z e =
      ap (λ (t : List ℕ). le_bytes 4 (6 + length (pre ++ laid a (whole last (known nm qs) r))) ++ (1 ∷ 1 ∷ t))
      (ap (λ (t : List ℕ). pre ++ t) (laid_append a (whole last (known nm qs) r)) ∙ sym (append_assoc pre (laid a []) (whole last (known nm qs) r))
      ∙ ap (λ (t : List ℕ). pre ++ laid a [] ++ (flag_bits sliced true (any_optional qs) last ∷ (string_bytes nm ++ (le_bytes 4 (4 + length (D qs)) ++ t))))
      (ap (λ (t : List ℕ). t ++ r) e ∙ append_assoc x (y ++ z) r ∙ ap (λ (t : List ℕ). x ++ t) (append_assoc y z r)))

  pub message_length : (qs : List Piece) → length (message qs) ≡ flags_at + 1 + length (string_bytes nm) + (4 + length (D qs)) + length r
  unfolding encapsulate id_of
  message_length qs =
      let X : List ℕ = whole last (known nm qs) r in
      omega (arith, length-append (le_bytes 4 (6 + length (pre ++ laid a X))) (1 ∷ 1 ∷ (pre ++ laid a X)), length_le_bytes 4 (6 + length (pre ++ laid a X)), length-append pre (laid a X), ap length (laid_append a X), length-append (laid a []) X, whole_known qs)
    where
      whole_known : (qs : List Piece) → length (whole last (known nm qs) r) ≡ 1 + length (string_bytes nm) + (4 + length (D qs)) + length r
      whole_known qs = whole_length last (known nm qs) r

  module _ (k : ℕ) (new : Option Piece) (ps : List Piece) (g : Gap) (C : DataCut k nm new ps g) where
    abbrev now : List Piece
    now = edit_pieces k new ps

    abbrev w : List ℕ
    w = fresh_bytes new ++ mark (has_marker (is_setting new) g)

    pub slices_spliced : slice_spliced flags_at size_at (end_at ps) (size_at + 4 + length (concat piece_bytes (before k ps))) (size_at + 4 + cut_end (is_setting new) g) (flag_bits sliced true (flagged (is_setting new) g) last) w (message ps) ≡ message now
    slices_spliced =
        let B : List ℕ = concat piece_bytes (before k ps) in
        let l₁ = message_length ps in
        let l₂ = message_length now in
        let d₁ = ap length C.old in
        let d₂ = ap length C.now in
        let n₁ = length-append B (C.gone ++ C.stays) in
        let n₂ = length-append C.gone C.stays in
        let n₃ = length-append B (w ++ C.stays) in
        let n₄ = length-append w C.stays in
        let X : List ℕ = whole last (known nm now) r in
        let outer : length (message ps) - length C.gone + length w ≡ 6 + length (pre ++ laid a X) = omega (arith, l₁, l₂, d₁, d₂, n₁, n₂, n₃, n₄, length_encapsulate (v11 sliced) (pre ++ laid a X)) in
        let inner : end_at ps - size_at - length C.gone + length w ≡ 4 + length (D now) = omega (arith, d₁, d₂, n₁, n₂, n₃, n₄) in
        slice_segments (le_bytes 4 (6 + length (pre ++ laid a (whole last (known nm ps) r)))) A (string_bytes nm) (le_bytes 4 (4 + length (D ps))) B C.gone (C.stays ++ r) w (message ps) (flag_bits sliced true (any_optional ps) last) (flag_bits sliced true (flagged (is_setting new) g) last)
        flags_at size_at (end_at ps) (size_at + 4 + length B) (size_at + 4 + cut_end (is_setting new) g) (spelt ps B C.gone C.stays C.old) (length_le_bytes 4 _) (length_le_bytes 4 _) (omega (arith, length-append pre (laid a []))) refl refl (omega (arith, C.ends))
        ∙ ap₂ (λ (n i : ℕ). le_bytes 4 n ++ (A ++ (flag_bits sliced true (flagged (is_setting new) g) last ∷ (string_bytes nm ++ (le_bytes 4 i ++ (B ++ (w ++ (C.stays ++ r))))))))
        outer inner
        ∙ ap (λ (q : Bool). le_bytes 4 (6 + length (pre ++ laid a (whole last (known nm now) r))) ++ (A ++ (flag_bits sliced true q last ∷ (string_bytes nm ++ (le_bytes 4 (4 + length (D now)) ++ (B ++ (w ++ (C.stays ++ r)))))))) (sym C.flags)
        ∙ sym (spelt now B w C.stays C.now)
