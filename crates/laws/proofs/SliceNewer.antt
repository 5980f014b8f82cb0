-- The slices of a record that conform to a new table: to an old table those of records that it does not know are skipped, and the rest conforms.
--
--   follow_newer    the slices of matching chains
--   slices_newer    a chain of slices, unless compact with a first type ID that the old table lacks
use Rattle.std.specs.Prelude.{◌≡◌, true, ℕ, suc, ◌<◌, length}
use Rattle.std.proofs.Math.Path.{refl, sym, ap, subst, subst₂}
use Rattle.std.proofs.Common.{◌∙◌, arith}
use Rattle.std.proofs.Math.Option.{Option, none, some}
use mathlib.Core.List.{List, [], ◌∷◌, ◌++◌, map}
use Rattle.std.proofs.Math.ListN.{length-append}
use Rattle.encoding.proofs.ResultLaws.{some≢none}
use Rattle.encoding.specs.Number.{Short}
use Rattle.encoding.specs.Table.{types, kind, is_record, name_of, named, base, upward, chain}
use Rattle.encoding.proofs.RuleLaws.{base_right, named_short, named_text, named_ok, named_at, chain_node}
use Rattle.encoding.specs.Slice.{Format, sliced, Slice, known, passed, Stand, later, id_of, data_bytes, slice_front, is_last}
use Rattle.encoding.specs.Message.{v11, slices_bytes}
use Rattle.encoding.specs.Conform.{Follow, Slices}
use Rattle.encoding.specs.Extends.{Extends}
use Rattle.laws.specs.Demands.{first_id}
use Rattle.laws.specs.Lose.{lose_known, lose_slice}
use Rattle.laws.proofs.OptionalNewer.{owned_newer}
use Rattle.laws.proofs.RecordNewer.{Pair, Bases, neither, both, bases_of, pair_named, named_both, named_only, Descends, Line, here, above, descends_ok, descends_newer}

module _ (old new : List ℕ) (X : Extends old new) where
  -- the slices of matching chains
  pub follow_newer : (g : Format) (ss : List Slice) {b c : ℕ} → Bases old new b c → Follow new (v11 g) (upward (chain new) c) ss → Follow old (v11 g) (upward (chain old) b) (map (lose_slice old) ss)
  unfolding upward lose_slice lose_known
  follow_newer g [] neither F = tt
  follow_newer g [] (both {u = u} P) F = absurd (subst (λ (l : List ℕ). Follow new (v11 g) l []) (chain_node new u) F)
  follow_newer g (passed b nm d ∷ ss) neither F = absurd F
  follow_newer g (passed b nm d ∷ ss) (both {u = u} P) F = absurd (subst (λ (l : List ℕ). Follow new (v11 g) l (passed b nm d ∷ ss)) (chain_node new u) F)
  follow_newer g (known o ps ∷ ss) neither F = absurd F
  follow_newer g (known o ps ∷ ss) (both {t = t} {u = u} P) F =
      let G = subst (λ (l : List ℕ). Follow new (v11 g) l (known o ps ∷ ss)) (chain_node new u) F in
      let e : named old o ≡ some t = ap (named old) G.0 ∙ pair_named old new X t u P in
      subst₂ (λ (l : List ℕ) (sl : Slice). Follow old (v11 g) l (sl ∷ map (lose_slice old) ss)) (sym (chain_node old t)) (sym (ap (lose_known old o ps) e))
      (G.0 ∙ sym P.same.names, owned_newer old new X.new_right t u P.owners ps G.1, follow_newer g ss (bases_of old new X t u P) G.2)

  module _ (top top' : ℕ) (tops : Pair old new top top') where
    rest_short : (g : Format) (s : Stand) (sl : Slice) (ss : List Slice) → Short (length (slices_bytes (v11 g) s (sl ∷ ss))) → Short (length (data_bytes sl)) × Short (length (slices_bytes (v11 g) (later g) ss))
    unfolding slices_bytes
    rest_short g s sl ss h =
        let a = length-append (slice_front g s (is_last ss) sl ++ data_bytes sl) (slices_bytes (v11 g) (later g) ss) in
        let b = length-append (slice_front g s (is_last ss) sl) (data_bytes sl) in
        (omega (arith, a, b, h), omega (arith, a, b, h))

    -- slices of a new chain that holds the top, where the old table has known none yet
    behind_newer : (ss : List Slice) (g : Format) (s : Stand) (u : ℕ) → u < types new → is_record (kind new u) ≡ true → Descends new top' u → Follow new (v11 g) (chain new u) ss
        → Short (length (slices_bytes (v11 g) s ss)) → (named old (first_id ss) ≡ none → g ≡ sliced) → Slices old top (v11 g) (map (lose_slice old) ss)
    unfolding upward lose_slice lose_known first_id id_of data_bytes
    behind_newer [] g s u l r d F h fit = absurd (subst (λ (l : List ℕ). Follow new (v11 g) l []) (chain_node new u) F)
    behind_newer (passed b nm z ∷ ss) g s u l r d F h fit = absurd (subst (λ (l : List ℕ). Follow new (v11 g) l (passed b nm z ∷ ss)) (chain_node new u) F)
    behind_newer (known o ps ∷ ss) g s u l r d F h fit =
        go (subst (λ (l : List ℕ). Follow new (v11 g) l (known o ps ∷ ss)) (chain_node new u) F) (named old o) refl
        (λ v m q e H k f. behind_newer ss g (later g) v m q e H k f)
      where
        short : Short (length (data_bytes (known o ps))) × Short (length (slices_bytes (v11 g) (later g) ss))
        short = rest_short g s (known o ps) ss h

        go : Follow new (v11 g) (u ∷ upward (chain new) (base new u)) (known o ps ∷ ss) → (n : Option ℕ) → named old o ≡ n
            → ((v : ℕ) → v < types new → is_record (kind new v) ≡ true → Descends new top' v → Follow new (v11 g) (chain new v) ss
            → Short (length (slices_bytes (v11 g) (later g) ss)) → (named old (first_id ss) ≡ none → g ≡ sliced) → Slices old top (v11 g) (map (lose_slice old) ss))
            → Slices old top (v11 g) (lose_known old o ps n ∷ map (lose_slice old) ss)
        go G (some t) e ih =
            let P = named_both old new X o t u e (ap (named new) G.0 ∙ named_at new X.new_right u l r) in
            record {
              row = t;
              known = e;
              descends = descends_newer old new X top top' tops (suc t) t u (omega arith) P d;
              follow = subst (λ (n : Option ℕ). Follow old (v11 g) (chain old t) (lose_known old o ps n ∷ map (lose_slice old) ss)) e (follow_newer g (known o ps ∷ ss) (both P) F);
            }
        go G none e ih = go₂ (descends_ok new top' u d)
          where
            go₂ : Line new top' u → Slices old top (v11 g) (lose_known old o ps none ∷ map (lose_slice old) ss)
            go₂ (here q) = absurd (some≢none (ap (named old) G.0 ∙ ap (λ (v : ℕ). named old (name_of new v)) q ∙ pair_named old new X top top' tops) e)
            go₂ (above v q w) =
                let W = base_right new X.new_right u l r v q in
                let i : named new o ≡ some u = ap (named new) G.0 ∙ named_at new X.new_right u l r in (
                  record {
                    format = fit e;
                    unknown = e;
                    id = record { length_short = omega (arith, named_short new X.new_right o u i); is_text = named_text new X.new_right o u i };
                    data_short = short.0;
                  },
                  ih v (omega (arith, W.0)) (ap (λ (k : ℕ). is_record k) W.1 ∙ r) w (subst (λ (c : ℕ). Follow new (v11 g) (upward (chain new) c) ss) q G.2) short.1 (λ z. fit e),
                )

    pub slices_newer : (ss : List Slice) (g : Format) (s : Stand) → Slices new top' (v11 g) ss → Short (length (slices_bytes (v11 g) s ss)) → (named old (first_id ss) ≡ none → g ≡ sliced)
        → Slices old top (v11 g) (map (lose_slice old) ss)
    unfolding lose_slice
    slices_newer [] g s C h fit = absurd C
    slices_newer (passed b nm d ∷ ss) g s C h fit = (
      record { format = C.0.format; unknown = go (named old nm) refl; id = C.0.id; data_short = C.0.data_short },
      slices_newer ss g (later g) C.1 (rest_short g s (passed b nm d) ss h).1 (λ z. C.0.format),
    )
      where
        go : (n : Option ℕ) → named old nm ≡ n → n ≡ none
        go none e = refl
        go (some t) e = absurd (named_only old new X nm t e C.0.unknown)
    slices_newer (known o ps ∷ ss) g s C h fit =
        let N = named_ok new o C.row C.known in
        behind_newer (known o ps ∷ ss) g s C.row N.0 N.1 C.descends C.follow h fit
