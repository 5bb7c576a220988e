-- A label read digit by digit, the signs added up as they stand and 48 for each digit taken off at the end. Main results: label_of_one, label_of_two,
-- label_of_three, label_of_four.
use Rattle.std.specs.Prelude.{◌≡◌, refl, true, false, List, ℕ, suc, ◌+◌, ◌-◌, ◌*◌, ◌≤◌, ◌<◌, length, get_or, drop}
use Rattle.std.proofs.Common.{ap, sym, ◌∙◌, arith}
use Rattle.rules.specs.Newick.{is_digit}
use Rattle.rules.specs.Tree.{leaf}
use Rattle.grammar.specs.Reading.{read, more_digits}
use Rattle.grammar.proofs.Complete.{no_more}
use Rattle.text_laws.specs.Cells.{leaf_in}
use Rattle.text_laws.specs.Answers.{Same, Labelled}
use Rattle.text_laws.proofs.Bytes.{digit_in, digit_range, place_digit, no_digit, longer_yes, label_more}
use Rattle.text_laws.specs.Digits.{Digits}

module _ (signs s : List ℕ) (same : Same signs s) where
  digits_one : (at c x : ℕ) → c ≡ get_or signs at 0 → is_digit (get_or signs at 0) ≡ true → (c ≡ 48 → ⊥) → x ≡ c - 48 → Digits s at 1 3 x
  digits_one at c x e h z v =
      let g : is_digit (get_or s at 0) ≡ true = ap is_digit (sym (same at)) ∙ h in
      let p : at < length s = place_digit s at g in
      let w : get_or s at 0 - 48 ≡ x = omega (arith, same at) in
      record {
        within = omega arith;
        reads = label_more s at g (λ q. z (e ∙ same at ∙ q)) ∙ ap (λ (k : ℕ). more_digits 3 k (drop (at + 1) s)) w;
      }

  digits_more : {at i k x : ℕ} (c y : ℕ) → Digits s at i (suc k) x → c ≡ get_or signs (at + i) 0 → is_digit c ≡ true → y ≡ 10 * x + (c - 48) → Digits s at (i + 1) k y
  digits_more {at} {i} {k} {x} c y D e h v =
      let g : is_digit (get_or s (at + i) 0) ≡ true = ap is_digit (sym (e ∙ same (at + i))) ∙ h in
      let p : at + i < length s = place_digit s (at + i) g in
      let w : 10 * x + (get_or s (at + i) 0 - 48) ≡ y = omega (arith, same (at + i)) in
      let j : at + i + 1 ≡ at + (i + 1) = omega arith in
      record {
        within = omega arith;
        reads = D.reads ∙ longer_yes s (at + i) x g k ∙ ap (λ (z : ℕ). more_digits k z (drop (at + i + 1) s)) w ∙ ap (λ (z : ℕ). more_digits k y (drop z s)) j;
      }

  -- a label ends where no digit follows
  labelled_stop : {at i k x r : ℕ} {m m' : List ℕ} (c : ℕ) → Digits s at i (suc k) x → 1 ≤ i → x < 10000 → c ≡ get_or signs (at + i) 0 → is_digit c ≡ false
      → (r ≡ at + i) × (m' ≡ leaf_in x m) → Labelled s at m m' r
  labelled_stop {at} {i} {k} {x} c D one small e h (p, q) =
      let g : is_digit (get_or s (at + i) 0) ≡ false = ap is_digit (sym (e ∙ same (at + i))) ∙ h in
      record {
        value = x;
        small = small;
        ahead = omega arith;
        within = omega (arith, D.within);
        reads = D.reads ∙ no_more (suc k) x (drop (at + i) s) (no_digit s (at + i) g) ∙ ap (λ (j : ℕ). read (drop j s) (leaf x)) (sym p);
        there = q;
      }

-- or with its fourth digit
labelled_full : {s : List ℕ} {at x r : ℕ} {m m' : List ℕ} → Digits s at 4 0 x → x < 10000 → (r ≡ at + 4) × (m' ≡ leaf_in x m) → Labelled s at m m' r
unfolding more_digits
labelled_full {s} {at} {x} D small (p, q) =
    record { value = x; small = small; ahead = omega arith; within = omega (arith, D.within); reads = D.reads ∙ ap (λ (j : ℕ). read (drop j s) (leaf x)) (sym p); there = q }

-- the label whose first sign is c, which is no 0
module _ (signs s : List ℕ) (same : Same signs s) {at c : ℕ} (asked : (at + 4 < 6144) × (c ≡ get_or signs at 0) × (48 < c) × (c ≤ 57)) where
  one_digit : Digits s at 1 3 (c - 48)
  one_digit =
      let low = asked.2 in
      let first : is_digit (get_or signs at 0) ≡ true = ap is_digit (sym asked.1) ∙ digit_in c (omega arith) asked.3 in
      digits_one signs s same at c (c - 48) asked.1 first (λ q. omega arith) refl

  module _ {d : ℕ} (there : d ≡ get_or signs (at + 1) 0) where
    pub label_of_one : {r : ℕ} {m m' : List ℕ} → is_digit d ≡ false → (r ≡ at + 1) × (m' ≡ leaf_in (c - 48) m) → Labelled s at m m' r
    label_of_one none_more p = labelled_stop signs s same d one_digit (omega arith) (omega (arith, asked.3)) there none_more p

    module _ (second : is_digit d ≡ true) where
      two_digits : Digits s at 2 2 (10 * c + d - 528)
      two_digits = digits_more signs s same d (10 * c + d - 528) one_digit there second (omega (arith, asked.2, digit_range d second))

      module _ {e : ℕ} (there' : e ≡ get_or signs (at + 2) 0) where
        pub label_of_two : {r : ℕ} {m m' : List ℕ} → is_digit e ≡ false → (r ≡ at + 2) × (m' ≡ leaf_in (10 * c + d - 528) m) → Labelled s at m m' r
        label_of_two none_more p = labelled_stop signs s same e two_digits (omega arith) (omega (arith, asked.3, digit_range d second)) there' none_more p

        module _ (third : is_digit e ≡ true) where
          three_digits : Digits s at 3 1 (10 * (10 * c + d) + e - 5328)
          three_digits =
              digits_more signs s same e (10 * (10 * c + d) + e - 5328) two_digits there' third (omega (arith, asked.2, digit_range d second, digit_range e third))

          module _ {f : ℕ} (there'' : f ≡ get_or signs (at + 3) 0) where
            pub label_of_three : {r : ℕ} {m m' : List ℕ} → is_digit f ≡ false → (r ≡ at + 3) × (m' ≡ leaf_in (10 * (10 * c + d) + e - 5328) m) → Labelled s at m m' r
            label_of_three none_more p =
                labelled_stop signs s same f three_digits (omega arith) (omega (arith, asked.3, digit_range d second, digit_range e third)) there'' none_more p

            module _ (fourth : is_digit f ≡ true) where
              pub label_of_four : {r : ℕ} {m m' : List ℕ} → (r ≡ at + 4) × (m' ≡ leaf_in (10 * (10 * (10 * c + d) + e) + f - 53328) m) → Labelled s at m m' r
              label_of_four p =
                  let four = digits_more signs s same f (10 * (10 * (10 * c + d) + e) + f - 53328) three_digits there'' fourth (omega (arith, asked.2, digit_range d second, digit_range e third, digit_range f fourth)) in
                  labelled_full four (omega (arith, asked.3, digit_range d second, digit_range e third, digit_range f fourth)) p
