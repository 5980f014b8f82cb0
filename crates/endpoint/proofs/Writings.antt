-- The writer's cases: its arguments judged, the length it needs, the two parts of the endpoint put one after the other. Assumes nothing.
--
--   judge_..          the first of 2, 3, 24 and 27
--   needed_..         the length, by the type
--   written_..        a refusal of the arguments, 22, and what is written
--   head_put, tail_put, _udp   the parts of the head and of the tail put one after another
--   write_..          the endpoint put, or the output as it was
use mathlib.Core.Path.{◌≡◌, refl, sym, ap, ◌∙◌}
use mathlib.Core.Bool.{Bool, true, false}
use mathlib.Core.List.{List, [], ◌∷◌, ◌++◌, append_assoc}
use Prim.Native.Nat.{ℕ, zero, suc, ◌+◌, ◌-◌, ◌≤◌, ◌<◌}
use native.Mathlib.Omega.{arith}
use lib.ListN.{length, take, drop, length-append}
use lib.Seq.{take-length}
use borrow.Author.Tests.{ltb-false, le-leb, lt-leb, lt-ltb, le-ltb, ne_eqb}
use Rattle.encoding.specs.Result.{first_of}
use Rattle.encoding.proofs.ResultLaws.{first_of_ok}
use Rattle.encoding.specs.Utf8.{is_utf8}
use Rattle.encoding.specs.Number.{le_bytes, size_bytes}
use Rattle.encoding.proofs.NumberLaws.{length_le_bytes}
use Rattle.encoding.specs.Message.{limit}
use Rattle.encoding.specs.Write.{Out, out, stop, next, stopped_first, bounded, output, writing_of}
use Rattle.encoding.specs.declared.Writing.{Writing}
use Rattle.encoding.specs.declared.Writing.TheVariants.{Written, Rejected}
use Rattle.wire.specs.Put.{put}
use Rattle.wire.specs.PutLaws.{put_put, put_front, put_length}
use Rattle.endpoint.specs.Endpoint.{opens, timed, no_port, timeout_bytes, endpoint_bytes, address_of, argument_form, endpoint_writing}
use Rattle.endpoint.proofs.EndpointLaws.{opens_step, opens_not, is_timed, written_ok, bounded_ok}
use Rattle.endpoint.specs.Layout.{bit, judged, needed_length, head_bytes, tail_bytes}
use Rattle.endpoint.proofs.LayoutLaws.{length_head, needed_is, layout}
use Rattle.endpoint.proofs.Openings.{not_dialled, one_of, next_put}
use Rattle.std.specs.Int.{from_bool}
use Rattle.std.specs.Prelude.{Result, Ok, Err}

-- ---- the arguments

module _ (k : ℕ) (h : List ℕ) (p : ℕ) where
  pub judge_zero : k ≡ 0 → Err 2 ≡ judged (argument_form k h p)
  unfolding judged argument_form first_of opens
  judge_zero z = rw z

  pub judge_high : 3 < k → Err 2 ≡ judged (argument_form k h p)
  unfolding judged argument_form first_of
  judge_high l = rw (opens_not k (not_dialled k l))

  module _ (z : k ≡ 0 → ⊥) (l : k ≤ 3) where
    opened_type : opens k ≡ true
    opened_type = opens_step (one_of k z l)

    pub judge_long : 65536 < length h → Err 3 ≡ judged (argument_form k h p)
    unfolding judged argument_form first_of
    judge_long m = rw (opened_type, lt-ltb limit (length h) m)

    module _ (m : length h ≤ 65536) (r : Bool) (e : r ≡ is_utf8 (take (length h - 0) (drop 0 h))) where
      text_is : is_utf8 h ≡ r
      text_is = let z : length h ≡ length h - 0 = omega arith in ap is_utf8 (sym (take-length h)) ∙ ap (λ (n : ℕ). is_utf8 (take n h)) z ∙ sym e

      pub judge_text : r ≡ false → Err 24 ≡ judged (argument_form k h p)
      unfolding judged argument_form first_of
      judge_text q = rw (opened_type, le-ltb limit (length h) m, text_is, q)

      module _ (q : r ≡ true) where
        pub judge_no_port : p ≡ 0 → Err 27 ≡ judged (argument_form k h p)
        unfolding judged argument_form first_of no_port
        judge_no_port o = rw (opened_type, le-ltb limit (length h) m, text_is, q, o)

        pub judge_high_port : (p ≡ 0 → ⊥) → 65535 < p → Err 27 ≡ judged (argument_form k h p)
        unfolding judged argument_form first_of no_port
        judge_high_port o w = rw (opened_type, le-ltb limit (length h) m, text_is, q, ne_eqb p 0 o, lt-ltb 65535 p w)

        pub judge_fine : (p ≡ 0 → ⊥) → p ≤ 65535 → Ok tt ≡ judged (argument_form k h p)
        unfolding judged argument_form first_of no_port
        judge_fine o w = rw (opened_type, le-ltb limit (length h) m, text_is, q, ne_eqb p 0 o, le-ltb 65535 p w)

-- ---- the length

module _ (k n a : ℕ) (e : a ≡ length (size_bytes n)) where
  pub needed_udp : k ≡ 3 → 13 + a + n ≡ needed_length k n
  unfolding needed_length timed
  needed_udp z = rw (z, e)

  pub needed_timed : (k ≡ 3 → ⊥) → 17 + a + n ≡ needed_length k n
  unfolding needed_length timed
  needed_timed z = rw (ne_eqb k 3 z, e)

-- ---- the answer

judged_fine : (f : ℕ) → Ok tt ≡ judged f → f ≡ 0
unfolding judged
judged_fine zero e = refl
judged_fine (suc f) e = let z : ◌≡◌ {A = ℕ} 0 1 = cc in absurd (omega arith)

judged_wrong : (f c : ℕ) → Err c ≡ judged f → (c ≡ f) × (f ≡ 0 → ⊥)
unfolding judged
judged_wrong zero c e = let z : ◌≡◌ {A = ℕ} 0 1 = cc in absurd (omega arith)
judged_wrong (suc f) c e = (cc, λ q. omega arith)

pub short_host : (k : ℕ) (h : List ℕ) (p : ℕ) (r : Result (Unit {0}) ℕ) → r ≡ judged (argument_form k h p) → (u : Unit {0}) → r ≡ Ok u → length h ≤ 65536
unfolding argument_form
short_host k h p r e u z = ltb-false limit (length h) (first_of_ok 2 _ _ (first_of_ok 1 _ _ (judged_fine (argument_form k h p) (sym z ∙ e))).1).0

stopped : (f : ℕ) (o : Out (List ℕ)) → (f ≡ 0 → ⊥) → next (stopped_first f) (λ _. o) ≡ stop f 0
unfolding next stopped_first
stopped zero o n = absurd (n refl)
stopped (suc f) o n = refl

module _ (k : ℕ) (h : List ℕ) (p t c room : ℕ) (r : Result (Unit {0}) ℕ) (e : r ≡ judged (argument_form k h p)) where
  pub written_refused : (f : ℕ) → r ≡ Err f → Rejected f 0 ≡ writing_of (endpoint_writing k h p t c room)
  unfolding endpoint_writing writing_of
  written_refused f q =
      let w = judged_wrong (argument_form k h p) f (sym q ∙ e) in
      rw (stopped (argument_form k h p) (bounded room (endpoint_bytes (address_of k h p t c))) w.1) (ap (λ (i : ℕ). Rejected i 0) w.0)

  module _ (u : Unit {0}) (z : r ≡ Ok u) (n : ℕ) (q : n ≡ needed_length k (length h)) where
    length_is : length (endpoint_bytes (address_of k h p t c)) ≡ n
    length_is = needed_is k h p t c ∙ sym q

    then : endpoint_writing k h p t c room ≡ bounded room (endpoint_bytes (address_of k h p t c))
    unfolding endpoint_writing next stopped_first
    then = rw (judged_fine (argument_form k h p) (sym z ∙ e))

    pub written_limit : 65536 < n → Rejected 22 n ≡ writing_of (endpoint_writing k h p t c room)
    unfolding bounded writing_of
    written_limit l = rw (then, length_is, lt-leb n limit l)

    pub written_room : n ≤ 65536 → room < n → Rejected 22 n ≡ writing_of (endpoint_writing k h p t c room)
    unfolding bounded writing_of
    written_room l m = rw (then, length_is, le-leb n limit l, lt-leb n room m)

    pub written_is : n ≤ 65536 → n ≤ room → Written n ≡ writing_of (endpoint_writing k h p t c room)
    unfolding bounded writing_of
    written_is l m = rw (then, length_is, le-leb n limit l, le-leb n room m, length_is)

-- ---- the bytes

pub head_put : (k n : ℕ) (h lent r u v w x : List ℕ) (a : ℕ) → length (head_bytes k n h) ≤ length lent → a ≡ length (size_bytes (length h))
    → r ≡ put 0 (le_bytes 2 k) lent → u ≡ put 2 (le_bytes 4 (n - 2)) r → v ≡ put 6 (le_bytes 2 257) u → w ≡ put 8 (size_bytes (length h)) v → x ≡ put (8 + a) h w
    → x ≡ put 0 (head_bytes k n h) lent
unfolding head_bytes
head_put k n h lent r u v w x a l ea er eu ev ew ex =
    let K : List ℕ = le_bytes 2 k in
    let N : List ℕ = le_bytes 4 (n - 2) in
    let J : List ℕ = le_bytes 2 257 in
    let S : List ℕ = size_bytes (length h) in
    let lk = length_le_bytes 2 k in
    let ln = length_le_bytes 4 (n - 2) in
    let lj = length_le_bytes 2 257 in
    let a1 = length-append K N in
    let a2 = length-append (K ++ N) J in
    let a3 = length-append (K ++ N ++ J) S in
    let a4 = length-append (K ++ N ++ J ++ S) h in
    let fu = next_put 2 K N lent r u er eu (omega (arith, lk)) (omega (arith, lk, ln, a1, a2, a3, a4)) in
    let fv = next_put 6 (K ++ N) J lent u v fu ev (omega (arith, lk, ln, a1)) (omega (arith, lj, a2, a3, a4)) in
    let fw = next_put 8 (K ++ N ++ J) S lent v w fv ew (omega (arith, lk, ln, lj, a1, a2)) (omega (arith, a3, a4)) in
    next_put (8 + a) (K ++ N ++ J ++ S) h lent w x fw ex (omega (arith, lk, ln, lj, a1, a2, a3, ea)) (omega (arith, a4))

-- bytes put after bytes, from a place on
after_put : (at p : ℕ) (b c lent u v : List ℕ) → u ≡ put at b lent → v ≡ put p c u → p ≡ at + length b → at + (length b + length c) ≤ length lent → v ≡ put at (b ++ c) lent
after_put at p b c lent u v eu ev e l = ev ∙ ap (put p c) eu ∙ put_put at p b c lent e (omega arith)

one_byte : (b : Bool) → le_bytes 1 (from_bool b) ≡ bit b ∷ []
unfolding le_bytes
one_byte true = refl
one_byte false = refl

tail_layout : (k p t c : ℕ) → timed k ≡ true → tail_bytes k p t c ≡ le_bytes 4 p ++ le_bytes 4 t ++ (c ∷ [])
unfolding tail_bytes timeout_bytes
tail_layout k p t c e = rw e (sym (append_assoc (le_bytes 4 p) (le_bytes 4 t) (c ∷ [])))

tail_udp : (k p t c : ℕ) → timed k ≡ false → tail_bytes k p t c ≡ le_bytes 4 p ++ (c ∷ [])
unfolding tail_bytes timeout_bytes
tail_udp k p t c e = rw e

is_udp : (k : ℕ) → k ≡ 3 → timed k ≡ false
unfolding timed
is_udp k z = rw z

module _ (k p t at : ℕ) (b : Bool) (lent u : List ℕ) (l : at + length (tail_bytes k p t (bit b)) ≤ length lent) (eu : u ≡ put at (le_bytes 4 p) lent) (c : ℕ) (ec : c ≡ from_bool b) where
  pub tail_put_udp : k ≡ 3 → (v : List ℕ) → v ≡ put (at + 4) (le_bytes 1 c) u → v ≡ put at (tail_bytes k p t (bit b)) lent
  tail_put_udp z v ev =
      let all = tail_udp k p t (bit b) (is_udp k z) in
      let q = ap length all in
      let lp = length_le_bytes 4 p in
      let room = length-append (le_bytes 4 p) (bit b ∷ []) in
      after_put at (at + 4) (le_bytes 4 p) (bit b ∷ []) lent u v eu (ev ∙ ap (λ (x : List ℕ). put (at + 4) x u) (ap (le_bytes 1) ec ∙ one_byte b)) (omega (arith, lp)) (omega (arith, q, room))
      ∙ ap (λ (x : List ℕ). put at x lent) (sym all)

  pub tail_put : (k ≡ 3 → ⊥) → (v w : List ℕ) → v ≡ put (at + 4) (le_bytes 4 t) u → w ≡ put (at + 8) (le_bytes 1 c) v → w ≡ put at (tail_bytes k p t (bit b)) lent
  tail_put z v w ev ew =
      let all = tail_layout k p t (bit b) (is_timed k z) in
      let q = ap length all in
      let lp = length_le_bytes 4 p in
      let lt = length_le_bytes 4 t in
      let two = length-append (le_bytes 4 p) (le_bytes 4 t) in
      let room = length-append (le_bytes 4 p ++ le_bytes 4 t) (bit b ∷ []) in
      after_put at (at + 8) (le_bytes 4 p ++ le_bytes 4 t) (bit b ∷ []) lent v w
      (after_put at (at + 4) (le_bytes 4 p) (le_bytes 4 t) lent u v eu ev (omega (arith, lp)) (omega (arith, two, q, room)))
      (ew ∙ ap (λ (x : List ℕ). put (at + 8) x v) (ap (le_bytes 1) ec ∙ one_byte b)) (omega (arith, lp, lt, two)) (omega (arith, q, room))
      ∙ ap (λ (x : List ℕ). put at x lent) (sym all)

-- ---- all of it

written_only : (o : Out (List ℕ)) (n : ℕ) → Written n ≡ writing_of o → (b : List ℕ) × (o ≡ out b) × (n ≡ length b)
unfolding writing_of
written_only (out b) n e = (b, refl, cc)
written_only (stop c p) n e = let z : ◌≡◌ {A = ℕ} 0 1 = cc in absurd (omega arith)

module _ (k : ℕ) (h : List ℕ) (p t c : ℕ) (lent : List ℕ) (w : Writing) (e : w ≡ writing_of (endpoint_writing k h p t c (length lent))) where
  module _ (n : ℕ) (q : w ≡ Written n) where
    result : (endpoint_writing k h p t c (length lent) ≡ out (endpoint_bytes (address_of k h p t c))) × (n ≡ length (endpoint_bytes (address_of k h p t c))) × (n ≤ length lent)
    unfolding endpoint_writing
    result = go (written_only (endpoint_writing k h p t c (length lent)) n (sym q ∙ e))
      where
        go : (b : List ℕ) × (endpoint_writing k h p t c (length lent) ≡ out b) × (n ≡ length b)
            → (endpoint_writing k h p t c (length lent) ≡ out (endpoint_bytes (address_of k h p t c))) × (n ≡ length (endpoint_bytes (address_of k h p t c))) × (n ≤ length lent)
        go x =
            let F = bounded_ok (length lent) (endpoint_bytes (address_of k h p t c)) x.0 (written_ok (argument_form k h p) _ x.0 x.1).1 in
            let same = ap length F.0 in
            (x.1 ∙ ap out (sym F.0), x.2 ∙ sym same, omega (arith, x.2, same, F.2))

    -- its two parts have the length of the whole
    parts : length (head_bytes k n h) + length (tail_bytes k p t c) ≡ n
    parts = let s = ap length (layout k h p t c n result.1) in omega (arith, s, length-append (head_bytes k n h) (tail_bytes k p t c), result.1)

    pub write_least : 2 ≤ n
    write_least = omega (arith, parts, length_head k n h)

    pub write_head : length (head_bytes k n h) ≤ length lent
    write_head = omega (arith, parts, result.2)

    module _ (x : List ℕ) (ex : x ≡ put 0 (head_bytes k n h) lent) (a : ℕ) (ea : a ≡ length (size_bytes (length h))) where
      pub write_tail : 8 + a + length h + length (tail_bytes k p t c) ≤ length x
      write_tail = let s = ap length ex ∙ put_length 0 (head_bytes k n h) lent in omega (arith, s, parts, length_head k n h, ea, result.2)

      pub write_done : (y : List ℕ) → y ≡ put (8 + a + length h) (tail_bytes k p t c) x → y ≡ output (endpoint_writing k h p t c (length lent)) lent
      unfolding output
      write_done y ey =
          let all = layout k h p t c n result.1 in
          let s = ap length all in
          next_put (8 + a + length h) (head_bytes k n h) (tail_bytes k p t c) lent x y ex ey (omega (arith, length_head k n h, ea)) (omega (arith, parts, result.2))
          ∙ ap (λ (z : List ℕ). put 0 z lent) (sym all) ∙ put_front (endpoint_bytes (address_of k h p t c)) lent (omega (arith, result.1, result.2))
          ∙ sym (ap (λ (o : Out (List ℕ)). output o lent) result.0)

  pub write_refused : (f q : ℕ) → w ≡ Rejected f q → lent ≡ output (endpoint_writing k h p t c (length lent)) lent
  unfolding output writing_of
  write_refused f q i = go (endpoint_writing k h p t c (length lent)) (sym i ∙ e)
    where
      go : (o : Out (List ℕ)) → Rejected f q ≡ writing_of o → lent ≡ output o lent
      go (out b) j = let z : ◌≡◌ {A = ℕ} 0 1 = cc in absurd (omega arith)
      go (stop c p) j = refl
