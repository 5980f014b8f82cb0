-- The stores are those of the part, one after another. Assumes nothing.
use borrow.Author.Rules.{rules}
use native.Mathlib.Omega.{arith}
use lib.ListN.{length-set}
use native.Mathlib.Nat.{add-zero}
use Rattle.pieces.proofs.Copies.{copied}
use Rattle.pieces.proofs.piece.put_eight.Statement.{statement}
use Rattle.pieces.proofs.piece.put_eight.Tie as tie

pub put_eight_spec : {M : Type 1} → statement M
put_eight_spec =
    tie.close
    (tie.spec
    (λ c. search rules)  -- shared-slice-read-b0
    (λ c. search rules)  -- add-b1
    (λ c. search rules)  -- shared-slice-read-b1
    (λ c. search rules)  -- add-b2
    (λ c. search rules)  -- shared-slice-read-b2
    (λ c. search rules)  -- add-b3
    (λ c. search rules)  -- shared-slice-read-b3
    (λ c. search rules)  -- add-b4
    (λ c. search rules)  -- shared-slice-read-b4
    (λ c. search rules)  -- add-b5
    (λ c. search rules)  -- shared-slice-read-b5
    (λ c. search rules)  -- add-b6
    (λ c. search rules)  -- shared-slice-read-b6
    (λ c. search rules)  -- add-b7
    (λ c. search rules)  -- shared-slice-read-b7
    (λ c. search rules)  -- slice-write-out
    (λ c. search rules)  -- add-out
    (λ c. simp length-set (omega arith))  -- slice-write-out-2
    (λ c. search rules)  -- add-out-2
    (λ c. simp length-set (omega arith))  -- slice-write-out-3
    (λ c. search rules)  -- add-out-3
    (λ c. simp length-set (omega arith))  -- slice-write-out-4
    (λ c. search rules)  -- add-out-4
    (λ c. simp length-set (omega arith))  -- slice-write-out-5
    (λ c. search rules)  -- add-out-5
    (λ c. simp length-set (omega arith))  -- slice-write-out-6
    (λ c. search rules)  -- add-out-6
    (λ c. simp length-set (omega arith))  -- slice-write-out-7
    (λ c. search rules)  -- add-out-7
    (λ c. simp length-set (omega arith))  -- slice-write-out-8
    (λ c. simp length-set)  -- same-length
    (λ c. simp add-zero at (copied 8 c.before.before.before.before.before.before.before.before.args.out.now c.before.before.before.before.before.before.before.before.args.at c.before.before.before.before.before.before.before.before.args.buffer.now c.before.before.before.before.before.before.before.before.args.place c.before.before.before.before.before.before.before.before.requires.0 c.before.before.before.before.before.before.before.before.requires.1)))  -- returns
