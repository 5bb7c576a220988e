-- Fact 1 of 01 over the clusters that the merges build: after each number of merges, of the pairs of the whole tree whose two clusters are there, the
-- one whose larger name is greatest is merged next. Main results: complete_rising, next_complete.
use Rattle.std.specs.Prelude.{◌≡◌, refl, ◌⊎◌, true, List, ◌∷◌, ◌++◌, ℕ, suc, ◌<◌, min, max, length, take, drop, get_or}
use Rattle.std.proofs.Common.{sym, ap, ◌∙◌, arith, take-append-drop, drop-cons}
use borrow.Author.Tests.{eq-eqb}
use Rattle.rules.specs.Building.{Merge}
use Rattle.rules.specs.Tree.{leaf, node, Clusters, grown, has}
use Rattle.clades.specs.Leaves.{Inside}
use Rattle.clades.specs.Form.{Turned}
use Rattle.clades.proofs.Form.{form_turned}
use Rattle.merging.specs.Once.{times}
use Rattle.merging.specs.Greedy.{Greedy}
use Rattle.merging.specs.Named.{Good, Rising}
use Rattle.merging.proofs.Named.{smaller_named, larger_named}
use Rattle.merging.proofs.Rest.{rest_there, there_rest, good_rest, rising_rest, rising_first, greedy_rest}
use Rattle.growing.specs.Grown.{filled}
use Rattle.growing.proofs.Grown.{grown_filled, grown_graft, grown_append, grown_keeps, has_grown, distinct_grown, form_grown, least_grown}
use Rattle.growing.specs.Ready.{Ready, Greatest}
use Rattle.growing.proofs.OrderOf.{first_greatest}
use Rattle.growing.proofs.Clusters.{clusters_ready}
use Rattle.growing.specs.Part.{Part}
use Rattle.growing.proofs.Part.{part_inside_both, part_turned, part_filled, part_own}
use Rattle.growing.specs.Complete.{Complete}

-- a complete pair has its smaller name first
pub complete_rising : (Q P : List Merge) → Rising Q → Rising P → Good P → (p : Merge) → Complete Q P p → p.0 < p.1
unfolding Turned
complete_rising Q P f g G p K =
    let T : Turned (grown P leaf 0) = rw (form_grown P g) at (form_turned (grown P leaf 0) (distinct_grown P g G)) in
    let l = (part_turned (node (grown Q leaf p.0) (grown Q leaf p.1)) (grown P leaf 0) K.pair T).0 in
    omega (arith, least_grown Q f p.0, least_grown Q f p.1)

module _ (Q : List Merge) (m : Merge) (R : List Merge) (g : Rising (Q ++ (m ∷ R))) (G : Good (Q ++ (m ∷ R))) (H : Greedy (Q ++ (m ∷ R))) where
  whole : grown (Q ++ (m ∷ R)) leaf 0 ≡ filled (grown Q leaf) (grown (m ∷ R) leaf 0)
  whole = ap (λ (c : Clusters). c 0) (grown_append Q (m ∷ R) leaf) ∙ grown_filled (m ∷ R) (grown Q leaf) 0

  -- a complete pair is a ready pair of the tree of the rest
  complete_ready : (p : Merge) → Complete Q (Q ++ (m ∷ R)) p → Ready (min p.0 p.1, max p.0 p.1) (grown (m ∷ R) leaf 0)
  complete_ready p K =
      clusters_ready (grown Q leaf) (grown (m ∷ R) leaf 0) (distinct_grown (m ∷ R) (rising_rest Q (m ∷ R) g) (good_rest Q (m ∷ R) G))
      (rw whole at (distinct_grown (Q ++ (m ∷ R)) g G)) p.0 p.1 (there p.0 K.smaller i.0) (there p.1 K.larger i.1) (rw whole at K.pair)
    where
      i : Inside (grown Q leaf p.0) (grown (Q ++ (m ∷ R)) leaf 0) × Inside (grown Q leaf p.1) (grown (Q ++ (m ∷ R)) leaf 0)
      i = part_inside_both (grown Q leaf p.0) (grown Q leaf p.1) (grown (Q ++ (m ∷ R)) leaf 0) K.pair

      there : (x : ℕ) → times x Q ≡ 0 → Inside (grown Q leaf x) (grown (Q ++ (m ∷ R)) leaf 0) → has (grown (m ∷ R) leaf 0) x ≡ true
      there x z j =
          has_grown (m ∷ R) (good_rest Q (m ∷ R) G) x
          ∙ there_rest Q (m ∷ R) x (sym (has_grown (Q ++ (m ∷ R)) G x) ∙ (unfold Inside in j x (grown_keeps Q leaf x x (unfold has in eq-eqb x x refl)))) z

  own_complete : Complete Q (Q ++ (m ∷ R)) m
  unfolding filled
  own_complete =
      let k = good_rest Q (m ∷ R) G in
      record {
        pair = rw whole (part_filled (grown Q leaf) (node (leaf m.0) (leaf m.1)) (grown (m ∷ R) leaf 0) (own k));
        smaller = rest_there Q (m ∷ R) G m.0 (smaller_named m R k);
        larger = rest_there Q (m ∷ R) G m.1 (larger_named m R);
      }
    where
      own : Good (m ∷ R) → Part (node (leaf m.0) (leaf m.1)) (grown (m ∷ R) leaf 0)
      own k = rw (grown_graft m R 0) (part_own m (grown R leaf 0) (unfold Good in has_grown R k.2 m.0 ∙ k.0))

  next_after : Greatest (Complete Q (Q ++ (m ∷ R))) m
  next_after = record { is_one = own_complete; others_below = λ p K. below p (complete_rising Q (Q ++ (m ∷ R)) (rising_first Q (m ∷ R) g) g G p K) (complete_ready p K) }
    where
      below : (p : Merge) → p.0 < p.1 → Ready (min p.0 p.1, max p.0 p.1) (grown (m ∷ R) leaf 0) → (p ≡ m) ⊎ (p.1 < m.1)
      below p l h =
          let a : min p.0 p.1 ≡ p.0 = omega arith in
          let b : max p.0 p.1 ≡ p.1 = omega arith in
          (first_greatest m R (rising_rest Q (m ∷ R) g) (good_rest Q (m ∷ R) G) (greedy_rest Q (m ∷ R) H)).others_below p (rw (a, b) at h)

-- merge number k is, of the pairs that are complete after the first k merges, the one whose larger name is greatest
pub next_complete : (P : List Merge) → Rising P → Good P → Greedy P → (k : ℕ) → k < length P → Greatest (Complete (take k P) P) (get_or P k (0, 0))
next_complete P g G H k h =
    let e : take k P ++ (get_or P k (0, 0) ∷ drop (suc k) P) ≡ P = ap (λ (R : List Merge). take k P ++ R) (sym (drop-cons P k (0, 0) h)) ∙ take-append-drop k P in
    rw e at (next_after (take k P) (get_or P k (0, 0)) (drop (suc k) P) (rw e g) (rw e G) (rw e H))
