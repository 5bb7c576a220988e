-- The loop that builds the merges of a vector: the two lists hold the merges of the first i entries.
-- Main definitions: Built, MergesOf, NextLeaf, Put. Main results: built_start, next_leaf, put_front, put_behind, built_next, built_end.
use Rattle.std.specs.Prelude.{◌≡◌, refl, List, ◌∷◌, map, ℕ, suc, ◌+◌, ◌-◌, ◌*◌, ◌≤◌, ◌<◌, length, take, drop, get_or, set}
use Rattle.std.proofs.Common.{sym, ap, ap₂, ◌∙◌, add-one, arith, length-take, length-drop, length-set, drop-cons, lt-length-set, get_or-set_same, get_or-take, get_or-drop, drop-set-lt, lt-ltb, le-ltb}
use Rattle.rules.specs.Vector.{entry, bound, Vector}
use Rattle.rules.specs.Building.{Merge}
use Rattle.merging.specs.Insertion.{pairs_of, pairs}
use Rattle.merging.proofs.Insertion.{pairs_count}
use Rattle.merging.specs.Greedy.{Under}
use Rattle.merging.proofs.Greedy.{under_pairs}
use Rattle.insertion.specs.Moved.{ins, ins_before}
use Rattle.merges.specs.Room.{list_room, list_middle}
use Rattle.merges.specs.Held.{held, place, name_at, name_in, pairs_next, larger_below, merge_at, same_name, held_next}

-- list from lo on and small hold the merges of the first i entries
pub record Built (v list small : List ℕ) (lo i : ℕ) : Type 0 where
  pub accepted : Vector v
  pub size : length list ≡ list_room
  pub size_small : length small ≡ 1024
  pub low : 1 ≤ i
  pub high : i ≤ length v
  pub above : list_middle < lo + i
  pub below : lo ≤ list_middle
  pub listed : map (held small) (take (i - 1) (drop lo list)) ≡ pairs_of (entry v) i

-- list from start on and small hold the merges of v
pub record MergesOf (v list small : List ℕ) (start : ℕ) : Type 0 where
  pub size : length list ≡ list_room
  pub size_small : length small ≡ 1024
  pub inside : start + (length v - 1) ≤ list_room
  pub listed : map (held small) (take (length v - 1) (drop start list)) ≡ pairs v

pub built_start : {v list small : List ℕ} → Vector v → length list ≡ list_room → length small ≡ 1024 → Built v list small list_middle 1
unfolding pairs_of
built_start ok size size_small = record {
  accepted = ok;
  size = size;
  size_small = size_small;
  low = omega arith;
  high = ok.valid.some_leaf;
  above = omega arith;
  below = omega arith;
  listed = refl;
}

-- where leaf i's merge can be put, whose entry is x
pub record NextLeaf (list small : List ℕ) (lo i x : ℕ) : Type 0 where
  pub top : x ≤ 2 * (i - 1)
  pub low : 1 ≤ i
  pub first : 16 ≤ lo
  pub inside : lo + (i - 1) + 16 ≤ length list
  pub looks : lo + (x - i) < length list
  pub finds : i ≤ x → get_or list (lo + (x - i)) 0 < length small
  pub few : i ≤ 1024
  pub stores : i < length small

-- leaf i's merge is put: the list starts at lo' then
pub record Put (list small : List ℕ) (lo i x : ℕ) (list' small' : List ℕ) (lo' : ℕ) : Type 0 where
  pub up : lo' ≤ lo
  pub down : lo ≤ lo' + 1
  pub larger : take (i - 1 + 1) (drop lo' list') ≡ ins (place x i) i (take (i - 1) (drop lo list))
  pub smaller : small' ≡ set small i (name_at list small lo x i)

-- the list from a store on
from_store : (l : List ℕ) (k a : ℕ) → k < length l → drop k (set l k a) ≡ a ∷ drop (k + 1) l
from_store l k a h =
    drop-cons (set l k a) k 0 (lt-length-set l k a h)
    ∙ ap₂ (λ (x : ℕ) (r : List ℕ). x ∷ r) (get_or-set_same l k a 0 h) (drop-set-lt (suc k) l k a (omega arith) ∙ ap (λ (n : ℕ). drop n l) (sym (add-one k)))

-- an entry below i names a leaf: its merge goes in front
pub put_front : {list small : List ℕ} {lo i x : ℕ} → NextLeaf list small lo i x → x < i → Put list small lo i x (set list (lo - 1) i) (set small i x) (lo - 1)
unfolding place name_at ins
put_front {list} {small} {lo} {i} {x} T h =
    let p = T.first in
    let q = T.inside in
    let inside : lo - 1 < length list = omega arith in
    let back : lo - 1 + 1 ≡ lo = omega arith in record {
      up = omega arith;
      down = omega arith;
      larger = rw (lt-ltb x i h, from_store list (lo - 1) i inside, back) (rw add-one);
      smaller = rw (lt-ltb x i h);
    }

-- any other goes right behind the merge that it counts, which is then where it was among the names
pub counted_stays : (list list' : List ℕ) (lo lo' m d w : ℕ) → d + 1 ≤ m → lo + m ≤ length list → take (m + 1) (drop lo' list') ≡ ins (d + 1) w (take m (drop lo list))
    → get_or list' (lo' + d) 0 ≡ get_or list (lo + d) 0
counted_stays list list' lo lo' m d w h room e =
    sym (get_or-drop lo' list' d 0)
    ∙ sym (get_or-take (m + 1) (drop lo' list') d 0 (omega arith))
    ∙ ap (λ (l : List ℕ). get_or l d 0) e
    ∙ ins_before (d + 1) d w (take m (drop lo list)) (omega arith) (omega (arith, length-take m (drop lo list), length-drop lo list))
    ∙ get_or-take m (drop lo list) d 0 (omega arith)
    ∙ get_or-drop lo list d 0

pub counted_inside : {list small : List ℕ} {lo i x d : ℕ} (list' : List ℕ) (lo' : ℕ) → NextLeaf list small lo i x → i ≤ x → d ≡ x - i
    → take (i - 1 + 1) (drop lo' list') ≡ ins (d + 1) i (take (i - 1) (drop lo list)) → get_or list' (lo' + d) 0 < length small
counted_inside {list} {small} {lo} {i} {x} {d} list' lo' T h q e =
    let top = T.top in
    let low = T.low in
    let inside = T.inside in
    rw (counted_stays list list' lo lo' (i - 1) d i (omega arith) (omega arith) e) (rw (sym q) at (T.finds h))

-- and has its smaller name
pub put_behind : {list small list' : List ℕ} {lo i x d lo' : ℕ} → NextLeaf list small lo i x → i ≤ x → d ≡ x - i → lo' ≤ lo → lo ≤ lo' + 1
    → take (i - 1 + 1) (drop lo' list') ≡ ins (d + 1) i (take (i - 1) (drop lo list)) → Put list small lo i x list' (set small i (get_or small (get_or list' (lo' + d) 0) 0)) lo'
unfolding place name_at
put_behind {list} {small} {list'} {lo} {i} {x} {d} {lo'} T h q u w e =
    let top = T.top in
    let low = T.low in
    let inside = T.inside in
    let same : get_or list' (lo' + d) 0 ≡ get_or list (lo + d) 0 = counted_stays list list' lo lo' (i - 1) d i (omega arith) (omega arith) e in
    record {
      up = u;
      down = w;
      larger = rw (le-ltb x i h, sym q) e;
      smaller = rw (le-ltb x i h, sym q, same);
    }

pub next_leaf : {v list small : List ℕ} {lo i x : ℕ} → Built v list small lo i → i < length v → x ≡ get_or v i 0 → NextLeaf list small lo i x
unfolding entry bound
next_leaf {v} {list} {small} {lo} {i} {x} B h ex =
    let t = B.accepted.valid.bounded i h in
    let top : x ≤ 2 * (i - 1) = omega arith in
    let few = B.accepted.few in
    let P = pairs_of (entry v) i in
    record {
      top = top;
      low = B.low;
      first = omega arith;
      inside = omega arith;
      looks = omega arith;
      finds = λ l.
          let m = merge_at list small lo (i - 1) P B.listed (x - i) (omega arith) (omega (arith, length-take (i - 1) (drop lo list), length-drop lo list)) in
          omega (arith, larger_below i P (under_pairs (entry v) i) (x - i) (omega (arith, pairs_count (entry v) i)), ap (λ (q : Merge). q.1) m);
      few = omega arith;
      stores = omega arith;
    }

pub built_next : {v list list' small small' : List ℕ} {lo lo' i x : ℕ} → Built v list small lo i → i < length v → x ≡ get_or v i 0 → length list' ≡ length list → Put list small lo i x list' small' lo' → Built v list' small' lo' (i + 1)
unfolding entry
built_next {v} {list} {list'} {small} {small'} {lo} {lo'} {i} {x} B h ex ls p =
    let T = next_leaf B h ex in
    let P = pairs_of (entry v) i in
    let few = B.accepted.few in
    let top = T.top in
    let inside = T.inside in
    let up = p.up in
    let down = p.down in
    let q : i + 1 - 1 ≡ i - 1 + 1 = omega arith in
    let under : Under i (map (held small) (take (i - 1) (drop lo list))) = rw B.listed (under_pairs (entry v) i) in
    let name : name_at list small lo x i ≡ name_in P x i =
    same_name list small lo x i P
    (λ l. merge_at list small lo (i - 1) P B.listed (x - i) (omega arith) (omega (arith, length-take (i - 1) (drop lo list), length-drop lo list))) in
    record {
      accepted = B.accepted;
      size = ls ∙ B.size;
      size_small = ap length p.smaller ∙ length-set small i (name_at list small lo x i) ∙ B.size_small;
      low = omega arith;
      high = omega arith;
      above = omega arith;
      below = omega arith;
      listed =
          rw (q, p.larger, p.smaller, held_next small (take (i - 1) (drop lo list)) (place x i) i (name_at list small lo x i) T.stores under, B.listed, name, ex)
          (sym (pairs_next (entry v) i B.low));
    }

pub built_end : {v list small : List ℕ} {lo i : ℕ} → Built v list small lo i → length v ≤ i → MergesOf v list small lo
unfolding pairs
built_end {v} {list} {small} {lo} {i} B h =
    let z : i ≡ length v = omega arith in
    let few = B.accepted.few in
    record {
      size = B.size;
      size_small = B.size_small;
      inside = omega arith;
      listed = rw z at B.listed;
    }
