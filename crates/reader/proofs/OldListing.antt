-- A parameter list of encoding 1.0: its required members. Assumes nothing.
--
--   old_at, old_place       places that fit
--   old_says, old_refused   the answer is that of the walk; old_gives the lent list
use mathlib.Core.Path.{◌≡◌, sym, ap, ap₂, ◌∙◌}
use mathlib.Core.Bool.{true}
use mathlib.Core.List.{List}
use Prim.Native.Nat.{ℕ, ◌+◌, ◌-◌, ◌≤◌}
use native.Mathlib.Omega.{arith}
use lib.ListN.{length, take, drop, length-drop}
use mir.Syntax.{w64}
use mir.Val.{Fits}
use Rattle.encoding.specs.Result.{ok}
use Rattle.encoding.specs.Table
use Rattle.encoding.specs.Optional.{Piece, requireds}
use Rattle.encoding.specs.Old.{members_as}
use Rattle.encoding.specs.Message.{piece_rows}
use Rattle.wire.specs.StepLaws.{rest_is}
use Rattle.table.specs.Tags.{optional_start}
use Rattle.level.specs.Fill.{fill}
use Rattle.level.specs.Answers.{members_of}
use Rattle.level.specs.AnswersLaws.{members_read, members_refused, members_within, refused_within}
use Rattle.level.specs.RequiredLaws.{required_count}
use Rattle.level.specs.declared.Members.{Members}
use Rattle.std.specs.Prelude.{Result, Ok, Err}
use Rattle.wire.specs.declared.Refusal.{Refusal}
use Rattle.slices.specs.declared.Walk.TheVariants.{Done, Stop}
use Rattle.slices.specs.Walks.{old_walk}
use Rattle.slices.specs.MemberLaws.{required_plain}

module _ (T : List ℕ) (top : ℕ) (m : List ℕ) (start : ℕ) (h : start ≤ length m) where
  -- what is left is what was read
  pub old_gives : (out l : List ℕ)
      → ((ps : List Piece) (n : ℕ) → requireds (members_as true (Table.required_members T top)) (take (length m - start) (drop start m)) ≡ ok ps n → out ≡ fill 0 (piece_rows T top start ps) l)
      → (ps : List Piece) (n : ℕ) → requireds (members_as true (Table.required_members T top)) (drop start m) ≡ ok ps n → out ≡ fill 0 (piece_rows T top start ps) l
  old_gives out l fills ps n e = fills ps n (ap (requireds (members_as true (Table.required_members T top))) (rest_is m start) ∙ e)

  module _ (ms : Result Members Refusal) (em : ms ≡ members_of 0 (optional_start T top) (requireds (members_as true (Table.required_members T top)) (take (length m - start) (drop start m)))) where
    reads : ms ≡ members_of 0 (optional_start T top) (requireds (members_as true (Table.required_members T top)) (drop start m))
    reads = em ∙ ap (λ (l : List ℕ). members_of 0 (optional_start T top) (requireds (members_as true (Table.required_members T top)) l)) (rest_is m start)

    module _ (x : Refusal) (q : ms ≡ Err x) where
      pub old_refused : Stop x.number (start + x.place) ≡ old_walk T top start (requireds (members_as true (Table.required_members T top)) (drop start m))
      unfolding old_walk
      old_refused = rw (members_refused (members_as true (Table.required_members T top)) 0 (optional_start T top) (drop start m) ms reads x q)

      pub old_place : Fits w64 (length m) → Fits w64 (start + x.place)
      old_place l = omega (arith, refused_within (members_as true (Table.required_members T top)) 0 (optional_start T top) (drop start m) ms reads x q, length-drop start m)

    module _ (x : Members) (q : ms ≡ Ok x) where
      pub old_at : Fits w64 (length m) → Fits w64 (start + x.bytes)
      old_at l = omega (arith, members_within (members_as true (Table.required_members T top)) 0 (optional_start T top) (drop start m) ms reads x q, length-drop start m)

      pub old_says : Done top 2 x.count 0 0 (start + x.bytes) ≡ old_walk T top start (requireds (members_as true (Table.required_members T top)) (drop start m))
      unfolding old_walk
      old_says = go (members_read (members_as true (Table.required_members T top)) 0 (optional_start T top) (drop start m) ms reads x q)
        where
          go : (ps : List Piece) × (requireds (members_as true (Table.required_members T top)) (drop start m) ≡ ok ps x.bytes) × (x.count ≡ 0 + length ps)
              → Done top 2 x.count 0 0 (start + x.bytes) ≡ old_walk T top start (requireds (members_as true (Table.required_members T top)) (drop start m))
          go R =
              ap₂ (λ (i j : ℕ). Done top 2 i j 0 (start + x.bytes)) (omega (arith, R.2, required_count true T top (drop start m) R.0 x.bytes start R.1)) (sym (required_plain (members_as true (Table.required_members T top)) (drop start m) R.0 x.bytes R.1).none_skipped)
              ∙ sym (ap (old_walk T top start) R.1)
