-- The stores are those of the part, one after another. Assumes nothing.
use borrow.Author.Rules.{rules}
use native.Mathlib.Nat.{add-zero}
use Rattle.pieces.proofs.Copies.{copied}
use Rattle.pieces.proofs.piece.put_one.Statement.{statement}
use Rattle.pieces.proofs.piece.put_one.Tie as tie

pub put_one_spec : {M : Type 1} → statement M
put_one_spec =
    tie.close
    (tie.spec
    (λ c. search rules)  -- shared-slice-read-out
    (λ c. search rules)  -- slice-write-out
    (λ c. search rules)  -- same-length
    (λ c. simp add-zero at (copied 1 c.before.args.out.now c.before.args.at c.before.args.buffer.now c.before.args.place c.before.requires.0 c.before.requires.1)))  -- returns
