-- A text squeezed byte by byte: the signs before a place are kept in front of zeros, and no label is parted before it or at it.
-- Main definition: Squeezing. Main results: squeezing_start, squeezing_blank, squeezing_sign, squeezing_parted, squeezing_many, squeezing_end.
use mathlib.Core.Path.{◌≡◌, refl, ap, sym, ◌∙◌}
use mathlib.Core.Bool.{Bool, true, false, ◌&&◌, cond}
use mathlib.Core.List.{List, [], ◌∷◌, ◌++◌, append-nil, append_assoc}
use Rattle.std.specs.Prelude.{Result, Ok, Err}
use Prim.Native.Nat.{ℕ, suc, ◌+◌, ◌-◌, ◌≤◌, ◌<◌}
use native.Mathlib.Omega.{arith}
use lib.Dec.{ltb}
use lib.ListN.{length, get_or, set, take, drop, length-append, length-set, drop_of_length-le, get_or-eq_default, get_or-append}
use lib.Seq.{get_or_at, get_or-set_same, get_or-set_other, get_or-append-add, get_or-drop, take-length}
use borrow.Author.Tests.{ltb-true, ltb-false}
use Rattle.rules.specs.Newick.{is_digit}
use Rattle.rules.specs.Sent.{blank, signs}
use Rattle.basics.proofs.Bools.{and_false, and_both}
use Rattle.basics.proofs.Cases.{by_lt, by_eq}
use Rattle.blanks.specs.Marks.{Last, other, next, parts, at_gap, behind_digit}
use Rattle.blanks.proofs.Marks.{behind_blank, behind_sign, gap_sign, gap_blank, signs_blank, signs_sign}
use Rattle.blanks.specs.Kept.{kept_from, kept}
use Rattle.blanks.proofs.Kept.{kept_blank, kept_sign, kept_parted}
use Rattle.blanks.proofs.Plain.{plain_kept}
use Rattle.text_laws.proofs.Bytes.{drop_byte, place_digit}
use Rattle.text_laws.specs.Cells.{AllZero}
use Rattle.text_laws.specs.Answers.{Same}
use Rattle.text_signs.specs.Keeping.{too_many, kept_of, SignsKept, KeptIn}
use Rattle.text_signs.specs.declared.TooManySigns.{TooManySigns}

-- the first i bytes are squeezed to q signs, of which the last is given, or 0 where there is none
pub record Squeezing (s array : List ℕ) (last q i : ℕ) : Type 0 where
  pub front : List ℕ
  pub before : Last
  pub within : i ≤ length s
  pub few : q ≤ 6056
  pub count : length front ≡ q
  pub room : length array ≡ 6144
  pub there : Same array front
  pub keeps : kept s ≡ front ++ kept_from before (drop i s)
  pub counts : length (signs s) ≡ q + length (signs (drop i s))
  pub ends : is_digit last ≡ behind_digit before
  pub passes : parts before (get_or s i 0) ≡ false

pub squeezing_start : (s array : List ℕ) → length array ≡ 6144 → AllZero array → Squeezing s array 0 0 0
unfolding kept parts at_gap behind_digit is_digit
squeezing_start s array room zeros = record {
  front = [];
  before = other;
  within = omega arith;
  few = omega arith;
  count = refl;
  room = room;
  there = zeros;
  keeps = refl;
  counts = omega arith;
  ends = refl;
  passes = and_false (is_digit (get_or s 0 0));
}

-- a sign more behind those that are there
same_set : (array front : List ℕ) (q c : ℕ) → Same array front → length front ≡ q → q < length array → Same (set array q c) (front ++ (c ∷ []))
same_set array front q c h l r k =
    by_lt k q (λ e. get_or-set_other array q k c 0 (λ z. omega arith) ∙ h k ∙ sym (get_or-append front (c ∷ []) 0 k (omega arith)))
    (λ e. by_eq k q (λ z. rw z (get_or-set_same array q c 0 r ∙ sym (get_or_at front c [] 0 q l))) (λ n. behind n e))
  where
    behind : (k ≡ q → ⊥) → q ≤ k → get_or (set array q c) k 0 ≡ get_or (front ++ (c ∷ [])) k 0
    behind n e =
        get_or-set_other array q k c 0 n ∙ h k ∙ get_or-eq_default front 0 (omega arith)
        ∙ sym (get_or-eq_default (front ++ (c ∷ [])) 0 (omega (arith, length-append front (c ∷ []), n)))

and_comm : (a b : Bool) → a && b ≡ b && a
and_comm true true = refl
and_comm true false = refl
and_comm false true = refl
and_comm false false = refl

module _ {s array : List ℕ} {last q i : ℕ} (S : Squeezing s array last q i) where
  -- what is behind the last byte looked at
  pub squeezing_end : length s ≤ i → SignsKept s array q
  unfolding kept_from signs
  squeezing_end h =
      let none : drop i s ≡ [] = drop_of_length-le s h in
      let all : kept s ≡ S.front = S.keeps ∙ ap (λ (x : List ℕ). S.front ++ kept_from S.before x) none ∙ append-nil S.front in
      let count : length (signs (drop i s)) ≡ 0 = ap (λ (x : List ℕ). length (signs x)) none in
      record { few = omega (arith, S.counts, S.few); count = ap length all ∙ S.count; there = rw all S.there }

  module _ (h : i < length s) where
    abbrev c : ℕ
    c = get_or s i 0

    abbrev rest : List ℕ
    rest = drop (i + 1) s

    module _ (e : blank (get_or s i 0) ≡ true) where
      blank_keeps : kept s ≡ S.front ++ kept_from (next S.before c) rest
      blank_keeps = S.keeps ∙ ap (λ (x : List ℕ). S.front ++ x) (ap (kept_from S.before) (drop_byte s i h) ∙ kept_blank S.before c rest e)

      -- whether a digit behind it parts a label
      parts_next : (d : ℕ) → parts (next S.before c) d ≡ is_digit last && is_digit d
      unfolding parts
      parts_next d = ap (λ (b : Bool). is_digit d && b) (gap_blank S.before c e ∙ sym S.ends) ∙ and_comm (is_digit d) (is_digit last)

      pub squeezing_blank : is_digit last && is_digit (get_or s (i + 1) 0) ≡ false → Squeezing s array last q (i + 1)
      squeezing_blank n = record {
        front = S.front;
        before = next S.before c;
        within = omega arith;
        few = S.few;
        count = S.count;
        room = S.room;
        there = S.there;
        keeps = blank_keeps;
        counts = S.counts ∙ ap (λ (x : List ℕ). q + length x) (ap signs (drop_byte s i h) ∙ signs_blank c rest e);
        ends = S.ends ∙ sym (behind_blank S.before c e);
        passes = parts_next (get_or s (i + 1) 0) ∙ n;
      }

      ends_here : is_digit last ≡ true → is_digit (get_or s (i + 1) 0) ≡ true → q + length (signs (drop i s)) ≤ 6056 → SignsKept s array q
      ends_here f g few =
          let d : ℕ = get_or s (i + 1) 0 in
          let none : kept_from (next S.before c) rest ≡ [] =
          ap (kept_from (next S.before c)) (drop_byte s (i + 1) (place_digit s (i + 1) g))
          ∙ kept_parted (next S.before c) d (drop (i + 1 + 1) s) (parts_next d ∙ rw (g, f)) in
          let all : kept s ≡ S.front = blank_keeps ∙ ap (λ (x : List ℕ). S.front ++ x) none ∙ append-nil S.front in
          record { few = omega (arith, S.counts); count = ap length all ∙ S.count; there = rw all S.there }

      -- a digit behind it does: what is kept ends here
      pub squeezing_parted : {told : Result ℕ TooManySigns} → told ≡ kept_of q (q + length (signs (drop i s))) → is_digit last && is_digit (get_or s (i + 1) 0) ≡ true → KeptIn s array told
      squeezing_parted is parts-it = rw is (go (ltb 6056 (q + length (signs (drop i s)))) refl)
        where
          go : (b : Bool) → ltb 6056 (q + length (signs (drop i s))) ≡ b → KeptIn s array (cond b (Err too_many) (Ok q))
          go true f = omega (arith, S.counts, ltb-true 6056 (q + length (signs (drop i s))) f)
          go false f = ends_here (and_both (is_digit last) (is_digit (get_or s (i + 1) 0)) parts-it).0 (and_both (is_digit last) (is_digit (get_or s (i + 1) 0)) parts-it).1 (ltb-false 6056 (q + length (signs (drop i s))) f)

    module _ (e : blank (get_or s i 0) ≡ false) where
      sign_counts : length (signs (drop i s)) ≡ suc (length (signs rest))
      sign_counts = ap length (ap signs (drop_byte s i h) ∙ signs_sign c rest e)

      pub squeezing_many : q ≡ 6056 → 6056 < length (signs s)
      squeezing_many z = omega (arith, S.counts, sign_counts)

      pub squeezing_sign : (q ≡ 6056 → ⊥) → Squeezing s (set array q c) c (q + 1) (i + 1)
      unfolding parts
      squeezing_sign n = record {
        front = S.front ++ (c ∷ []);
        before = next S.before c;
        within = omega arith;
        few = omega (arith, S.few, n);
        count = length-append S.front (c ∷ []) ∙ ap (λ (x : ℕ). x + 1) S.count;
        room = length-set array q c ∙ S.room;
        there = same_set array S.front q c S.there S.count (omega (arith, S.few, S.room));
        keeps = S.keeps ∙ ap (λ (x : List ℕ). S.front ++ x) (ap (kept_from S.before) (drop_byte s i h) ∙ kept_sign S.before c rest e S.passes)
            ∙ sym (append_assoc S.front (c ∷ []) (kept_from (next S.before c) rest));
        counts = omega (arith, S.counts, sign_counts);
        ends = sym (behind_sign S.before c e);
        passes = ap (λ (b : Bool). is_digit (get_or s (i + 1) 0) && b) (gap_sign S.before c e) ∙ and_false (is_digit (get_or s (i + 1) 0));
      }

pub squeezing_as : {s array array' : List ℕ} {last last' q q' i : ℕ} → array' ≡ array → last' ≡ last → q' ≡ q → Squeezing s array last q i → Squeezing s array' last' q' i
squeezing_as e f g S = rw (e, f, g) S

-- a text without blanks is kept as it is
pub plain_keeps : (s array : List ℕ) → signs s ≡ s → length s ≤ 6056 → AllZero array → SignsKept s (take (length s) s ++ drop (length s) array) (length s)
plain_keeps s array e h zeros =
    let all : kept s ≡ s = plain_kept s (ap length e) in
    record { few = omega (arith, ap length e); count = ap length all; there = λ k. rw (all, take-length s) (at k) }
  where
    at : (k : ℕ) → get_or (s ++ drop (length s) array) k 0 ≡ get_or s k 0
    at k = by_lt k (length s) (λ l. get_or-append s (drop (length s) array) 0 k l) (λ l. behind k l)
      where
        behind : (k : ℕ) → length s ≤ k → get_or (s ++ drop (length s) array) k 0 ≡ get_or s k 0
        behind k l =
            let split : k ≡ length s + (k - length s) = omega arith in
            ap (λ (j : ℕ). get_or (s ++ drop (length s) array) j 0) split ∙ get_or-append-add s (drop (length s) array) (k - length s) 0
            ∙ get_or-drop (length s) array (k - length s) 0 ∙ zeros (length s + (k - length s)) ∙ sym (get_or-eq_default s 0 l)
