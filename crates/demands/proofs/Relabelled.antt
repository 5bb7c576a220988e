-- Renamed leaves: what relabelling and Queue Shuffle make of a vector's tree. Main results: permutation_exactly, relabelled, shuffled; what the calls
-- make: relabel_makes, shuffle_makes.
use Rattle.std.specs.Prelude.{Bool, true, false, ◌&&◌, List, [], ◌↔◌, ◌≡◌, refl, ℕ, ◌≤◌, ◌<◌, ltb, length}
use Rattle.std.proofs.Common.{true≢false, sym, ◌∙◌, subst, arith, take_all, ltb-true, lt-ltb}
use Rattle.std.proofs.Math.Option.{none}
use Rattle.rules.specs.Vector.{Valid, entry, Vector}
use Rattle.rules.specs.Tree.{Tree, tree_of, LeavesBelow, Clade, SameClades}
use Rattle.rules.specs.Order.{vector_of}
use Rattle.rules.specs.Shuffle.{renamed, permutation_fault, new_of}
use Rattle.rules.specs.Answer.{made}
use Rattle.rules.specs.CallShuffle.{shuffle}
use Rattle.rules.specs.CallRelabel.{relabel}
use Rattle.basics.proofs.Bools.{both, and_both}
use Rattle.basics.proofs.Cases.{by_lt, by_test}
use Rattle.basics.proofs.Listed.{listed_entries}
use Rattle.clades.proofs.Same.{clade_in, clade_cong}
use Rattle.shuffle_laws.specs.Permutation.{Permutes}
use Rattle.shuffle_laws.proofs.Permutation.{permutes, no_fault, entry_below, entry_injective, entry_onto, one_to_one}
use Rattle.shuffle_laws.proofs.Renaming.{renamed_below, renamed_clades}
use Rattle.shuffle_laws.proofs.Taken.{new_permutes}
use Rattle.shuffle_laws.proofs.Shuffled.{shuffled_ordered}
use Rattle.accepting.proofs.Guards.{right_length, pass_at}
use Rattle.accepting.proofs.FromVector.{vector_accepted}
use Rattle.laws.proofs.TreeOf.{tree_leaves}
use Rattle.laws.proofs.OneToOne.{every_tree, only_vector}
use Rattle.demands.specs.Relabelled.{Permutation, unmoved, NewNames, Relabelled, Shuffled}

counted : {n : ℕ} {p : List ℕ} → Permutation n p → Permutes n p
counted {n} {p} P =
    let e = P.values in
    subst (Permutes n) (listed_entries p n (omega arith) ∙ take_all n p (omega arith)) (one_to_one n (entry p) P.below P.apart)

permutation : {n : ℕ} {p : List ℕ} → Permutes n p → Permutation n p
permutation P = record { values = P.count; below = entry_below P; apart = entry_injective P }

-- they are the lists of n values in which refusal 11 finds nothing
pub permutation_exactly : (n : ℕ) (p : List ℕ) → Permutation n p ↔ ((length p ≡ n) × (permutation_fault n 0 [] p ≡ none))
permutation_exactly n p = (λ P. (P.values, no_fault (counted P)), λ h. permutation (permutes n p h.0 h.1))

pub unmoved_permutes : (n : ℕ) → Permutation n (unmoved n)
unfolding unmoved
unmoved_permutes n = permutation (one_to_one n (λ x. x) (λ x h. h) (λ x y h k e. e))

-- the clades of the renamed tree and those of the tree
module _ {n : ℕ} {p : List ℕ} (P : Permutes n p) {t : Tree} (L : LeavesBelow n t) where
  -- a leaf of a clade is below n
  leaf_below : (c : ℕ → Bool) → Clade t c → (x : ℕ) → c x ≡ true → x < n
  leaf_below c k x e = ltb-true x n (sym (L.all x) ∙ clade_in c t k x e)

  -- the old names of a set
  abbrev old : (ℕ → Bool) → ℕ → Bool
  old d x = ltb x n && d (entry p x)

  -- each clade of the renamed tree is the set of the new names of a clade of the tree
  old_clade : (d : ℕ → Bool) → Clade (renamed p t) d → (c : ℕ → Bool) × Clade t c × NewNames p c d
  old_clade d k =
      let r = (renamed_clades P L d).0 k in
      (old d, r.1, λ y. (from y r.0, λ h. let b = and_both (ltb h.0 n) (d (entry p h.0)) h.1 in rw h.2 at b.1))
    where
      from : (y : ℕ) → ((z : ℕ) → n ≤ z → d z ≡ false) → d y ≡ true → (x : ℕ) × (old d x ≡ true) × (entry p x ≡ y)
      from y out e =
          by_lt y n
          (λ l. let o = entry_onto P y l in (o.0, rw (lt-ltb o.0 n o.1, o.2) e, o.2))
          (λ l. absurd (true≢false (sym e ∙ out y l)))

  -- and the set of the new names of a clade is one
  new_clade : (c d : ℕ → Bool) → Clade t c → NewNames p c d → Clade (renamed p t) d
  new_clade c d k h = (renamed_clades P L d).1 (outside, clade_cong c (old d) t same k)
    where
      outside : (y : ℕ) → n ≤ y → d y ≡ false
      outside y l =
          by_test (d y)
          (λ e. let x = (h y).0 e in absurd (omega (arith, entry_below P x.0 (leaf_below c k x.0 x.1), x.2)))
          (λ e. e)

      same : (x : ℕ) → old d x ≡ c x
      same x =
          both (old d x) (c x)
          (λ e. let b = and_both (ltb x n) (d (entry p x)) e in
          let z = (h (entry p x)).0 b.1 in
          rw (entry_injective P z.0 x (leaf_below c k z.0 z.1) (ltb-true x n b.0) z.2) at z.1)
          (λ e. rw (lt-ltb x n (leaf_below c k x e)) ((h (entry p x)).1 (x, e, refl)))

-- relabelling, for every valid vector and permutation
of_permutation : (v p : List ℕ) → Valid v → Permutes (length v) p → Relabelled v p (vector_of (renamed p (tree_of v)))
unfolding SameClades
of_permutation v p ok P =
    let L = tree_leaves v ok in
    let R = renamed_below P L in
    let E = every_tree (length v) (renamed p (tree_of v)) R in
    record {
      valid = E.valid;
      entries = E.entries;
      clades = E.clades;
      clades_renamed = λ d. (λ k. old_clade P L d ((E.clades d).0 k), λ h. (E.clades d).1 (new_clade P L h.0 d h.1 h.2));
      only = only_vector (length v) (renamed p (tree_of v)) R;
    }

pub relabelled : (v p : List ℕ) → Valid v → Permutation (length v) p → Relabelled v p (vector_of (renamed p (tree_of v)))
relabelled v p ok P = of_permutation v p ok (counted P)

pub shuffled : (v : List ℕ) → Valid v → Shuffled v (new_of (tree_of v)) (vector_of (renamed (new_of (tree_of v)) (tree_of v)))
shuffled v ok =
    let L = tree_leaves v ok in
    record {
      permutation_new = permutation (new_permutes L);
      relabelled_by_new = of_permutation v (new_of (tree_of v)) ok (new_permutes L);
      ordered = shuffled_ordered L;
    }

-- what the two calls make of a vector that they accept
pub relabel_makes : (v p : List ℕ) → Vector v → Permutation (length v) p → relabel v p ≡ made (vector_of (renamed p (tree_of v)))
unfolding relabel
relabel_makes v p ok P =
    let E = (permutation_exactly (length v) p).0 P in
    vector_accepted v _ ok
    ∙ right_length (length v) (length p) _ E.0
    ∙ pass_at 11 (permutation_fault (length v) 0 [] p) _ E.1

pub shuffle_makes : (v : List ℕ) → Vector v → shuffle v ≡ made (new_of (tree_of v), vector_of (renamed (new_of (tree_of v)) (tree_of v)))
unfolding shuffle
shuffle_makes v = vector_accepted v _
