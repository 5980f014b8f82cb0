-- The numbers of the answers on endpoints, case by case; equal answers have the same numbers. Assumes nothing.
--
--   is_.., unopened_.., refused_..    refusal and place of an answer to opening; opened_same
--   at_.., lost_..                    those of an answer to finding an endpoint; located_same
use mathlib.Core.Path.{◌≡◌, sym, ap, ◌∙◌}
use Prim.Native.Nat.{ℕ}
use lib.ListN.{get_or}
use Rattle.endpoint.specs.Endpoint.{opened_numbers}
use Rattle.locate.specs.Locate.{located_numbers}
use Rattle.endpoint.specs.declared.Opened.{Opened}
use Rattle.endpoint.specs.declared.Opened.TheVariants.{Is, Unopened, Refused}
use Rattle.locate.specs.declared.Located.{Located}
use Rattle.locate.specs.declared.Located.TheVariants.{At, Refused as Lost}

module _ (o : Opened) where
  module _ (k a n p t c : ℕ) (e : o ≡ Is k a n p t c) where
    pub is_number : 0 ≡ get_or (opened_numbers o) 0 0
    unfolding opened_numbers
    is_number = sym (ap (λ (x : Opened). get_or (opened_numbers x) 0 0) e)

    pub is_place : 0 ≡ get_or (opened_numbers o) 1 0
    unfolding opened_numbers
    is_place = sym (ap (λ (x : Opened). get_or (opened_numbers x) 1 0) e)

  module _ (k : ℕ) (e : o ≡ Unopened k) where
    pub unopened_number : 0 ≡ get_or (opened_numbers o) 0 0
    unfolding opened_numbers
    unopened_number = sym (ap (λ (x : Opened). get_or (opened_numbers x) 0 0) e)

    pub unopened_place : 0 ≡ get_or (opened_numbers o) 1 0
    unfolding opened_numbers
    unopened_place = sym (ap (λ (x : Opened). get_or (opened_numbers x) 1 0) e)

  module _ (c p : ℕ) (e : o ≡ Refused c p) where
    pub refused_number : c ≡ get_or (opened_numbers o) 0 0
    unfolding opened_numbers
    refused_number = sym (ap (λ (x : Opened). get_or (opened_numbers x) 0 0) e)

    pub refused_place : p ≡ get_or (opened_numbers o) 1 0
    unfolding opened_numbers
    refused_place = sym (ap (λ (x : Opened). get_or (opened_numbers x) 1 0) e)

pub opened_same : (a b : Opened) → a ≡ b → (r i : ℕ) → r ≡ get_or (opened_numbers a) i 0 → r ≡ get_or (opened_numbers b) i 0
opened_same a b e r i h = h ∙ ap (λ (x : Opened). get_or (opened_numbers x) i 0) e

module _ (o : Located) where
  module _ (n a l : ℕ) (e : o ≡ At n a l) where
    pub at_number : 0 ≡ get_or (located_numbers o) 0 0
    unfolding located_numbers
    at_number = sym (ap (λ (x : Located). get_or (located_numbers x) 0 0) e)

    pub at_place : 0 ≡ get_or (located_numbers o) 1 0
    unfolding located_numbers
    at_place = sym (ap (λ (x : Located). get_or (located_numbers x) 1 0) e)

  module _ (c p : ℕ) (e : o ≡ Lost c p) where
    pub lost_number : c ≡ get_or (located_numbers o) 0 0
    unfolding located_numbers
    lost_number = sym (ap (λ (x : Located). get_or (located_numbers x) 0 0) e)

    pub lost_place : p ≡ get_or (located_numbers o) 1 0
    unfolding located_numbers
    lost_place = sym (ap (λ (x : Located). get_or (located_numbers x) 1 0) e)

pub located_same : (a b : Located) → a ≡ b → (r i : ℕ) → r ≡ get_or (located_numbers a) i 0 → r ≡ get_or (located_numbers b) i 0
located_same a b e r i h = h ∙ ap (λ (x : Located). get_or (located_numbers x) i 0) e
