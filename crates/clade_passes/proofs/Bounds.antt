-- How great the numbers of a pass and of its table are, of valid vectors of n entries each.
-- Main results: length_vector_sets, set_bounds, set_at_bounds, length_archive_sets (the leaf sets); collected_rises, collected_length,
-- collected_counts (the entries on the way); trees_sets_bounds, trees_counts, trees_table_length (the entries of the table).
use Rattle.std.specs.Prelude.{◌≡◌, refl, Bool, true, false, cond, List, [], ◌∷◌, ℕ, zero, suc, ◌+◌, ◌-◌, ◌*◌, ◌^◌, ◌≤◌, ◌<◌, eqb, ltb, length, take, get_or}
use Rattle.std.proofs.Common.{sym, ap, subst, ◌∙◌, ⊎_elim, arith, suc-mul, length-append, length-take}
use Rattle.std.specs.Int.Count.{ones}
use Rattle.std.proofs.lemmas.Nat.{ones-le}
use Rattle.rules.specs.Vector.{Valid}
use Rattle.rules.specs.Building.{Merge, member, merges}
use Rattle.rules.specs.Tree.{Tree, LeavesBelow, tree_of}
use Rattle.rules.specs.declared.Clade.{Clade as Entry}
use Rattle.rules.specs.CladeTable.{inner, clade_table, trees_of}
use Rattle.building.proofs.Built.{merges_length}
use Rattle.laws.proofs.TreeOf.{tree_leaves}
use Rattle.clade_laws.specs.Rising.{From}
use Rattle.clade_laws.proofs.Inner.{member_head, member_tail, inner_some, inner_lt}
use Rattle.clade_laws.specs.Entries.{Each, leaves_of, InSome}
use Rattle.clade_laws.proofs.Entries.{each_member, table_is, table_counts}
use Rattle.clade_laws.proofs.TableLength.{table_length}
use Rattle.clade_passes.specs.Collected.{new_entry, one_more, add_entry, collected}
use Rattle.clade_passes.proofs.Collected.{add_from, times_member}
use Rattle.clade_passes.specs.Merged.{merged_sets, merged_into, vector_sets, archive_sets}
use Rattle.clade_passes.proofs.Merged.{vector_sets_lem, trees_below}
use Rattle.clade_passes.proofs.Archive.{each_mapped}

-- ---- the leaf sets of a vector
pub length_merged : (P : List Merge) (set : ℕ → ℕ) → length (merged_sets P set) ≡ length P
unfolding merged_sets
length_merged [] set = refl
length_merged (m ∷ P) set = ap suc (length_merged P (merged_into m set))

pub length_vector_sets : (v : List ℕ) → Valid v → length (vector_sets v) ≡ length v - 1
unfolding vector_sets
length_vector_sets v ok = length_merged (merges v) (λ x. 2 ^ x) ∙ merges_length v ok

sets_member : (v : List ℕ) → Valid v → (m : ℕ) → member m (vector_sets v) ≡ member m (inner (tree_of v))
sets_member v ok m =
    times_member m (vector_sets v) ∙ ap (λ (k : ℕ). ltb 0 k) (vector_sets_lem v ok m) ∙ some (member m (inner (tree_of v)))
  where
    some : (b : Bool) → ltb 0 (cond b 1 0) ≡ b
    some true = refl
    some false = refl

pub set_bounds : (v : List ℕ) → Valid v → (m : ℕ) → member m (vector_sets v) ≡ true → (1 ≤ m) × (m < 2 ^ length v)
set_bounds v ok m e =
    let q : member m (inner (tree_of v)) ≡ true = sym (sets_member v ok m) ∙ e in
    (inner_some (tree_of v) m q, inner_lt (length v) (tree_of v) (tree_leaves v ok) m q)

member_at : (l : List ℕ) (i : ℕ) → i < length l → member (get_or l i 0) l ≡ true
member_at [] i h = absurd (omega arith)
member_at (m ∷ l) zero h = member_head m l
member_at (m ∷ l) (suc i) h = member_tail (get_or l i 0) m l (member_at l i (omega arith))

-- the same by its place
pub set_at_bounds : (v : List ℕ) → Valid v → (i : ℕ) → i < length (vector_sets v)
    → (1 ≤ get_or (vector_sets v) i 0) × (get_or (vector_sets v) i 0 < 2 ^ length v)
set_at_bounds v ok i h = set_bounds v ok (get_or (vector_sets v) i 0) (member_at (vector_sets v) i h)

pub length_archive_sets : (n : ℕ) (vs : List (List ℕ)) → Each (λ v. Valid v × (length v ≡ n)) vs → length (archive_sets vs) ≡ length vs * (n - 1)
unfolding Each archive_sets
length_archive_sets n [] ok = omega arith
length_archive_sets n (v ∷ vs) ok =
    let l : length (vector_sets v) ≡ n - 1 = length_vector_sets v ok.0.0 ∙ ap (λ (k : ℕ). k - 1) ok.0.1 in
    omega (arith, length-append (vector_sets v) (archive_sets vs), l, length_archive_sets n vs ok.1, suc-mul (length vs) (n - 1))

-- ---- the entries on the way
from_taken : (k b : ℕ) (es : List Entry) → From b (leaves_of es) → From b (leaves_of (take k es))
unfolding From leaves_of
from_taken zero b es f = tt
from_taken (suc k) b [] f = tt
from_taken (suc k) b (e ∷ es) f = (f.0, from_taken k (e.leaves + 1) es f.1)

pub collected_rises : (K b : ℕ) (l : List ℕ) (es : List Entry) → From 0 (leaves_of es) → From 0 (leaves_of (collected K b es l))
unfolding collected
collected_rises K b [] es f = f
collected_rises K b (m ∷ l) es f = collected_rises K b l (cond (ltb b m) (take K (add_entry m es)) es) (go (ltb b m))
  where
    go : (t : Bool) → From 0 (leaves_of (cond t (take K (add_entry m es)) es))
    go true = from_taken K 0 (add_entry m es) (add_from m 0 es (omega arith) f)
    go false = f

pub collected_length : (K b : ℕ) (l : List ℕ) (es : List Entry) → length es ≤ K → length (collected K b es l) ≤ K
unfolding collected
collected_length K b [] es h = h
collected_length K b (m ∷ l) es h = collected_length K b l (cond (ltb b m) (take K (add_entry m es)) es) (go (ltb b m))
  where
    go : (t : Bool) → length (cond t (take K (add_entry m es)) es) ≤ K
    go true = rw (length-take K (add_entry m es)) (omega arith)
    go false = h

each_taken : {A : Type 0} (P : A → Type 0) (k : ℕ) (l : List A) → Each P l → Each P (take k l)
unfolding Each
each_taken P zero l c = tt
each_taken P (suc k) [] c = tt
each_taken P (suc k) (x ∷ l) c = (c.0, each_taken P k l c.1)

more_counts : (c d : ℕ) (es : List Entry) → c ≤ d → Each (λ e. e.count ≤ c) es → Each (λ e. e.count ≤ d) es
more_counts c d es h = each_mapped (λ e. e.count ≤ c) (λ e. e.count ≤ d) es (λ e k. omega (arith, h, k))

add_counts : (m c : ℕ) (es : List Entry) → Each (λ e. e.count ≤ c) es → Each (λ e. e.count ≤ c + 1) (add_entry m es)
unfolding add_entry Each
add_counts m c [] k = (omega arith, tt)
add_counts m c (e ∷ es) k = go (ltb e.leaves m) (eqb e.leaves m) (add_counts m c es k.1)
  where
    go : (s t : Bool) → Each (λ x. x.count ≤ c + 1) (add_entry m es)
        → Each (λ x. x.count ≤ c + 1) (cond s (e ∷ add_entry m es) (cond t (one_more e ∷ es) (new_entry m ∷ e ∷ es)))
    go true t ih = (omega (arith, k.0), ih)
    go false true ih = (omega (arith, k.0), more_counts c (c + 1) es (omega arith) k.1)
    go false false ih = (omega arith, (omega (arith, k.0), more_counts c (c + 1) es (omega arith) k.1))

-- no count is greater than how many leaf sets were looked at
pub collected_counts : (K b c : ℕ) (l : List ℕ) (es : List Entry) → Each (λ e. e.count ≤ c) es
    → Each (λ e. e.count ≤ c + length l) (collected K b es l)
unfolding collected
collected_counts K b c [] es k = more_counts c (c + 0) es (omega arith) k
collected_counts K b c (m ∷ l) es k =
    more_counts (c + 1 + length l) (c + suc (length l)) (collected K b next l) (omega arith) (collected_counts K b (c + 1) l next (go (ltb b m)))
  where
    next : List Entry
    next = cond (ltb b m) (take K (add_entry m es)) es

    go : (t : Bool) → Each (λ e. e.count ≤ c + 1) (cond t (take K (add_entry m es)) es)
    go true = each_taken (λ e. e.count ≤ c + 1) K (add_entry m es) (add_counts m c es k)
    go false = more_counts c (c + 1) es (omega arith) k

-- ---- the entries of the table
length_trees : (vs : List (List ℕ)) → length (trees_of vs) ≡ length vs
unfolding trees_of
length_trees [] = refl
length_trees (v ∷ vs) = ap suc (length_trees vs)

some_bounds : (n m : ℕ) (ts : List Tree) → Each (LeavesBelow n) ts → InSome m ts → (1 ≤ m) × (m < 2 ^ n)
unfolding Each InSome
some_bounds n m [] L p = absurd p
some_bounds n m (t ∷ ts) L p = ⊎_elim (λ q. (inner_some t m q, inner_lt n t L.0 m q)) (some_bounds n m ts L.1) p

module _ (n : ℕ) (vs : List (List ℕ)) (ok : Each (λ v. Valid v × (length v ≡ n)) vs) where
  -- leaf sets and sizes
  pub trees_sets_bounds : Each (λ e. (1 ≤ e.leaves) × (e.leaves < 2 ^ n) × (e.size ≤ n)) (clade_table (trees_of vs))
  trees_sets_bounds =
      each_member (λ m. (1 ≤ m) × (m < 2 ^ n)) (λ e. e.size ≡ ones e.leaves) (λ e. (1 ≤ e.leaves) × (e.leaves < 2 ^ n) × (e.size ≤ n))
      (clade_table (trees_of vs)) (λ m p. some_bounds n m (trees_of vs) (trees_below n vs ok) (((table_is (trees_of vs)).holds m).0 p))
      (λ e r c. (r.0, r.1, omega (arith, c, ones-le n e.leaves r.1))) (table_is (trees_of vs)).sizes

  -- counts
  pub trees_counts : Each (λ e. (1 ≤ e.count) × (e.count ≤ length vs)) (clade_table (trees_of vs))
  trees_counts =
      each_mapped (λ e. (1 ≤ e.count) × (e.count ≤ length (trees_of vs))) (λ e. (1 ≤ e.count) × (e.count ≤ length vs)) (clade_table (trees_of vs))
      (λ e c. (c.0, omega (arith, c.1, length_trees vs))) (table_counts (trees_of vs) (clade_table (trees_of vs)) (table_is (trees_of vs)))

  pub trees_table_length : length (clade_table (trees_of vs)) ≤ length vs * (n - 1)
  trees_table_length =
      subst (λ (k : ℕ). length (clade_table (trees_of vs)) ≤ k * (n - 1)) (length_trees vs)
      (table_length n (trees_of vs) (clade_table (trees_of vs)) (trees_below n vs ok) (table_is (trees_of vs)))
