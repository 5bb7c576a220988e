-- The loop that merges the leaf sets of clusters: after t merges the clusters are those that the other merges go on with.
-- Main definitions: held_sets, BeforeSets, Merging. Main results: merging_start, next_sets, merging_next, merging_end, before_sets, sets_of_vector.
use Rattle.std.specs.Prelude.{◌≡◌, refl, Bool, true, false, cond, List, [], ◌∷◌, ◌++◌, map, ℕ, suc, ◌+◌, ◌-◌, ◌^◌, ◌≤◌, ◌<◌, eqb, length, take, drop, get_or, set}
use Rattle.std.proofs.Common.{sym, ap, ap₂, ◌∙◌, add-one, arith, length-set, drop-cons, drop-drop, get_or-drop, get_or-set_same, get_or-set_other, take_all, take_at, pow_mono, eqb-true}
use Rattle.std.proofs.Math.ListN.{length-map, length-take, length-drop}
use Rattle.std.proofs.lemmas.Bool.{eqb-false}
use Rattle.rules.specs.Vector.{Valid}
use Rattle.rules.specs.Building.{Merge}
use Rattle.merging.specs.Insertion.{pairs}
use Rattle.building.proofs.Built.{merges_are_pairs}
use Rattle.written_tables.specs.Rows.{Inside}
use Rattle.written_tables.proofs.Rows.{inside_at}
use Rattle.lists.specs.Front.{mix, mix_start, mix_step}
use Rattle.merges.specs.Built.{MergesOf}
use Rattle.merges.specs.Held.{held, merge_at}
use Rattle.numbering.specs.Numbered.{held_merges, pairs_inside}
use Rattle.clade_passes.specs.Merged.{merged_into, merged_sets, vector_sets}
use Rattle.clade_passes.proofs.Bounds.{length_vector_sets, set_at_bounds, length_merged}
use Rattle.leaf_sets.specs.Bits.{Bits}

-- the leaf sets of the merges that the two lists hold
unfoldable pub held_sets : List ℕ → List ℕ → ℕ → ℕ → List ℕ
unfolding held_merges merged_sets
held_sets list small start n = merged_sets (held_merges list small start n) (λ x. 2 ^ x)

-- what the loop is given
pub record BeforeSets (list small : List ℕ) (start n : ℕ) (clusters : List ℕ) : Type 0 where
  pub some : 1 ≤ n
  pub few : n ≤ 1024
  pub in_list : start + (n - 1) ≤ length list
  pub in_small : n ≤ length small
  pub in_clusters : n ≤ length clusters
  pub names : Inside n (held_merges list small start n)
  pub single : Bits n clusters
  pub fits : (t : ℕ) → t < n - 1 → get_or (held_sets list small start n) t 0 < 2 ^ 64

module _ {list small : List ℕ} {start n : ℕ} {clusters : List ℕ} (H : BeforeSets list small start n clusters) where
  merges_long : length (held_merges list small start n) ≡ n - 1
  unfolding held_merges
  merges_long =
      omega (arith, H.in_list, length-map (take (n - 1) (drop start list)) (held small), length-take (n - 1) (drop start list), length-drop start list)

  sets_long : length (held_sets list small start n) ≡ n - 1
  unfolding held_sets
  sets_long = length_merged (held_merges list small start n) (λ x. 2 ^ x) ∙ merges_long

-- merges of names below n look at those clusters only
merged_inside : (n : ℕ) (f g : ℕ → ℕ) (P : List Merge) → Inside n P → ((c : ℕ) → c < n → f c ≡ g c) → merged_sets P f ≡ merged_sets P g
unfolding merged_sets merged_into Inside
merged_inside n f g [] i h = refl
merged_inside n f g (m ∷ P) i h =
    let e : f m.0 + f m.1 ≡ g m.0 + g m.1 = ap₂ ◌+◌ (h m.0 i.0) (h m.1 i.1) in
    ap₂ (λ (x : ℕ) (l : List ℕ). x ∷ l) e (merged_inside n (merged_into m f) (merged_into m g) P i.2 (λ c l. go (eqb c m.0) c e (h c l)))
  where
    go : (t : Bool) (c : ℕ) → f m.0 + f m.1 ≡ g m.0 + g m.1 → f c ≡ g c → cond t (f m.0 + f m.1) (f c) ≡ cond t (g m.0 + g m.1) (g c)
    go true c p q = p
    go false c p q = q

-- the first t merges are done
pub record Merging (list small : List ℕ) (start n : ℕ) (clusters₀ sets₀ clusters sets : List ℕ) (t : ℕ) : Type 0 where
  pub given : BeforeSets list small start n clusters₀
  pub in_sets : n - 1 ≤ length sets₀
  pub high : t ≤ n - 1
  pub same_clusters : length clusters ≡ length clusters₀
  pub same_sets : length sets ≡ length sets₀
  pub ahead : drop t (held_sets list small start n) ≡ merged_sets (drop t (held_merges list small start n)) (λ c. get_or clusters c 0)
  pub written : sets ≡ mix t (held_sets list small start n) sets₀

pub merging_start : {list small : List ℕ} {start n : ℕ} {clusters sets : List ℕ} → BeforeSets list small start n clusters → n - 1 ≤ length sets → Merging list small start n clusters sets clusters sets 0
unfolding held_sets
merging_start {list} {small} {start} {n} {clusters} {sets} H l = record {
  given = H;
  in_sets = l;
  high = omega arith;
  same_clusters = refl;
  same_sets = refl;
  ahead = merged_inside n (λ x. 2 ^ x) (λ c. get_or clusters c 0) (held_merges list small start n) H.names (λ c h. sym (H.single.at c h));
  written = mix_start (held_sets list small start n) sets;
}

-- the numbers of a turn: a and b are the names of merge t
pub record NextSets (list small : List ℕ) (start n : ℕ) (clusters : List ℕ) (t a b : ℕ) : Type 0 where
  pub a_few : a < 1024
  pub b_few : b < 1024
  pub in_small : b < length small
  pub a_in_clusters : a < length clusters
  pub b_in_clusters : b < length clusters
  pub both : get_or (held_sets list small start n) t 0 ≡ get_or clusters a 0 + get_or clusters b 0
  pub fits : get_or clusters a 0 + get_or clusters b 0 < 2 ^ 64
  pub rest : drop (suc t) (held_sets list small start n) ≡ merged_sets (drop (suc t) (held_merges list small start n)) (merged_into (a, b) (λ c. get_or clusters c 0))

-- the larger name of merge t is inside, before its smaller name is looked up
pub larger_inside : {list small : List ℕ} {start n : ℕ} {clusters₀ sets₀ clusters sets : List ℕ} {t b : ℕ} → Merging list small start n clusters₀ sets₀ clusters sets t → t < n - 1
    → b ≡ get_or list (start + t) 0 → get_or (held_merges list small start n) t (0, 0) ≡ (get_or small b 0, b)
unfolding held_merges
larger_inside {list} {small} {start} {n} {t = t} {b} M h eb =
    let H = M.given in
    merge_at list small start (n - 1) (held_merges list small start n) refl t h (omega (arith, H.in_list, length-take (n - 1) (drop start list), length-drop start list))
    ∙ ap (λ (x : ℕ). (get_or small x 0, x)) (sym eb)

pub next_sets : {list small : List ℕ} {start n : ℕ} {clusters₀ sets₀ clusters sets : List ℕ} {t a b : ℕ} → Merging list small start n clusters₀ sets₀ clusters sets t → t < n - 1
    → b ≡ get_or list (start + t) 0 → a ≡ get_or small b 0 → NextSets list small start n clusters t a b
unfolding merged_sets
next_sets {list} {small} {start} {n} {clusters₀} {sets₀} {clusters} {sets} {t} {a} {b} M h eb ea =
    let H = M.given in
    let P = held_merges list small start n in
    let e : get_or P t (0, 0) ≡ (a, b) = larger_inside M h eb ∙ ap (λ (x : ℕ). (x, b)) (sym ea) in
    let i = inside_at n P H.names t (omega (arith, merges_long H)) in
    let la : a < n = omega (arith, i.0, ap (λ (m : Merge). m.0) e) in
    let lb : b < n = omega (arith, i.1, ap (λ (m : Merge). m.1) e) in
    let d : drop t P ≡ (a, b) ∷ drop (suc t) P = drop-cons P t (0, 0) (omega (arith, merges_long H)) ∙ ap (λ (m : Merge). m ∷ drop (suc t) P) e in
    let s : drop t (held_sets list small start n) ≡ (get_or clusters a 0 + get_or clusters b 0) ∷ merged_sets (drop (suc t) P) (merged_into (a, b) (λ c. get_or clusters c 0))
    = M.ahead ∙ ap (λ (Q : List Merge). merged_sets Q (λ c. get_or clusters c 0)) d in
    let z : t + 0 ≡ t = omega arith in
    let both : get_or (held_sets list small start n) t 0 ≡ get_or clusters a 0 + get_or clusters b 0
    = sym (rw z at (get_or-drop t (held_sets list small start n) 0 0)) ∙ ap (λ (l : List ℕ). get_or l 0 0) s in
    record {
      a_few = omega (arith, H.few);
      b_few = omega (arith, H.few);
      in_small = omega (arith, H.in_small);
      a_in_clusters = omega (arith, H.in_clusters, M.same_clusters);
      b_in_clusters = omega (arith, H.in_clusters, M.same_clusters);
      both = both;
      fits = omega (arith, both, H.fits t h);
      rest = rw (sym (add-one t)) (sym (drop-drop 1 t (held_sets list small start n))) ∙ ap (drop 1) s;
    }

-- the clusters with the merged one
stored : (clusters : List ℕ) (a b x : ℕ) → a < length clusters → x ≡ get_or clusters a 0 + get_or clusters b 0
    → (c : ℕ) → merged_into (a, b) (λ y. get_or clusters y 0) c ≡ get_or (set clusters a x) c 0
unfolding merged_into
stored clusters a b x h e c = go (eqb c a) refl
  where
    go : (t : Bool) → eqb c a ≡ t → cond t (get_or clusters a 0 + get_or clusters b 0) (get_or clusters c 0) ≡ get_or (set clusters a x) c 0
    go true q = let z = eqb-true c a q in rw z (sym (get_or-set_same clusters a x 0 h ∙ e))
    go false q = sym (get_or-set_other clusters a c x 0 (eqb-false c a q))

pub merging_next : {list small : List ℕ} {start n : ℕ} {clusters₀ sets₀ clusters sets : List ℕ} {t a b : ℕ} → Merging list small start n clusters₀ sets₀ clusters sets t → t < n - 1
    → b ≡ get_or list (start + t) 0 → a ≡ get_or small b 0
    → Merging list small start n clusters₀ sets₀ (set clusters a (get_or clusters a 0 + get_or clusters b 0)) (set sets t (get_or clusters a 0 + get_or clusters b 0)) (t + 1)
merging_next {list} {small} {start} {n} {clusters₀} {sets₀} {clusters} {sets} {t} {a} {b} M h eb ea =
    let N = next_sets M h eb ea in
    let x = get_or clusters a 0 + get_or clusters b 0 in
    let S = held_sets list small start n in
    let P = held_merges list small start n in
    record {
      given = M.given;
      in_sets = M.in_sets;
      high = omega arith;
      same_clusters = length-set clusters a x ∙ M.same_clusters;
      same_sets = length-set sets t x ∙ M.same_sets;
      ahead = rw (add-one t) (N.rest ∙ ap (merged_sets (drop (suc t) P)) (λ i c. stored clusters a b x N.a_in_clusters refl c i));
      written = rw (sym N.both, M.written) (mix_step S sets₀ t (omega (arith, sets_long M.given)) (omega (arith, M.in_sets)));
    }

pub merging_end : {list small : List ℕ} {start n : ℕ} {clusters₀ sets₀ clusters sets : List ℕ} {t : ℕ} → Merging list small start n clusters₀ sets₀ clusters sets t → n - 1 ≤ t
    → sets ≡ held_sets list small start n ++ drop (n - 1) sets₀
unfolding mix
merging_end {list} {small} {start} {n} {clusters₀} {sets₀} {clusters} {sets} {t} M h =
    let z : t ≡ n - 1 = omega (arith, M.high) in
    rw z at M.written ∙ ap (λ (l : List ℕ). l ++ drop (n - 1) sets₀) (take_all (n - 1) (held_sets list small start n) (omega (arith, sets_long M.given)))

-- ---- of a vector's merges
pub held_vector_sets : (v list small : List ℕ) (start : ℕ) → Valid v → map (held small) (take (length v - 1) (drop start list)) ≡ pairs v
    → held_sets list small start (length v) ≡ vector_sets v
unfolding held_sets held_merges vector_sets
held_vector_sets v list small start ok e = rw (e, merges_are_pairs v ok)

pub before_sets : {v list small : List ℕ} {start : ℕ} {clusters : List ℕ} → Valid v → length v ≤ 64 → MergesOf v list small start → length clusters ≡ 64
    → Bits (length v) clusters → BeforeSets list small start (length v) clusters
unfolding held_merges
before_sets {v} {list} {small} {start} {clusters} ok few M lc B =
    let s = held_vector_sets v list small start ok M.listed in
    let size = M.size in
    let size_small = M.size_small in
    let inside = M.inside in
    record {
      some = ok.some_leaf;
      few = omega arith;
      in_list = omega arith;
      in_small = omega arith;
      in_clusters = omega arith;
      names = rw M.listed (pairs_inside v ok);
      single = B;
      fits = λ t h. rw s (omega (arith, (set_at_bounds v ok t (omega (arith, length_vector_sets v ok, h))).1, pow_mono {i = length v} {j = 64} few));
    }

pub sets_of_vector : (v list small sets sets₀ : List ℕ) (start : ℕ) → Valid v → map (held small) (take (length v - 1) (drop start list)) ≡ pairs v
    → sets ≡ held_sets list small start (length v) ++ drop (length v - 1) sets₀ → take (length v - 1) sets ≡ vector_sets v
sets_of_vector v list small sets sets₀ start ok e w =
    let s = held_vector_sets v list small start ok e in
    rw (w, s) (take_at (vector_sets v) (drop (length v - 1) sets₀) (length v - 1) (length_vector_sets v ok))
