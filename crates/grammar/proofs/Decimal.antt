-- A number below 10,000 in decimal is a label that reads as the number. Main results: digits_label, digits_length, digits_one to digits_four.
use Rattle.std.specs.Prelude.{◌≡◌, refl, Bool, true, false, cond, List, [], ◌∷◌, ◌++◌, ℕ, zero, suc, ◌+◌, ◌-◌, ◌*◌, ◌/◌, ◌%◌, ◌≤◌, ◌<◌, ltb, length}
use Rattle.std.proofs.Common.{ap, sym, subst₂, ◌∙◌, append_assoc, arith, length-append, ltb-true, ltb-false, lt-ltb, le-ltb, le-leb, ne_eqb}
use Rattle.rules.specs.Newick.{digits, is_digit, all_digits, value_from, Label, nought, number}
use Rattle.basics.proofs.Bools.{and_both}
use Rattle.grammar.specs.Decimal.{tens, Written, digit_count, two_digits}

digit_sign : (x : ℕ) → x < 10 → is_digit (48 + x) ≡ true
unfolding is_digit
digit_sign x h = rw (le-leb 48 (48 + x) (omega arith), le-leb (48 + x) 57 (omega arith))

one_digit : (y : ℕ) → y < 10 → all_digits ((48 + y) ∷ []) ≡ true
unfolding all_digits
one_digit y l = rw (digit_sign y l)

all_append : (a b : List ℕ) → all_digits a ≡ true → all_digits b ≡ true → all_digits (a ++ b) ≡ true
unfolding all_digits
all_append [] b p q = q
all_append (c ∷ a) b p q =
    let e : (is_digit c ≡ true) × (all_digits a ≡ true) = and_both (is_digit c) (all_digits a) p in
    rw e.0 (all_append a b e.1 q)

value_append : (x : ℕ) (a : List ℕ) (c : ℕ) → value_from x (a ++ (c ∷ [])) ≡ 10 * value_from x a + (c - 48)
unfolding value_from
value_append x [] c = refl
value_append x (b ∷ a) c = value_append (10 * x + (b - 48)) a c

written : (k x : ℕ) → 0 < x → x < tens k → Written k x (digits k x)
unfolding digits value_from
written zero x p h = absurd (omega arith)
written (suc k) x p h = go (ltb x 10) refl (λ q. written k (x / 10) q (omega arith))
  where
    more : Written k (x / 10) (digits k (x / 10)) → Written (suc k) x (digits k (x / 10) ++ ((48 + x % 10) ∷ []))
    more w =
        record {
          first = w.first;
          rest = w.rest ++ ((48 + x % 10) ∷ []);
          split = ap (λ (l : List ℕ). l ++ ((48 + x % 10) ∷ [])) w.split;
          all = all_append (w.first ∷ w.rest) ((48 + x % 10) ∷ []) w.all (one_digit (x % 10) (omega arith));
          no_zero = w.no_zero;
          few = omega (arith, length-append w.rest ((48 + x % 10) ∷ []), w.few);
          value = value_append 0 (w.first ∷ w.rest) (48 + x % 10) ∙ ap (λ (y : ℕ). 10 * y + (48 + x % 10 - 48)) w.value ∙ omega arith;
        }

    go : (b : Bool) → ltb x 10 ≡ b → (0 < x / 10 → Written k (x / 10) (digits k (x / 10)))
        → Written (suc k) x (cond b ((48 + x) ∷ []) (digits k (x / 10) ++ ((48 + x % 10) ∷ [])))
    go true e ih =
        let l : x < 10 = ltb-true x 10 e in
        record {
          first = 48 + x;
          rest = [];
          split = refl;
          all = one_digit x l;
          no_zero = ne_eqb (48 + x) 48 (λ q. omega arith);
          few = omega arith;
          value = omega arith;
        }
    go false e ih = let l : 10 ≤ x = ltb-false x 10 e in more (ih (omega arith))

-- a number in decimal is a label
pub digits_label : (x : ℕ) → x < 10000 → Label (digits 4 x) x
unfolding digits
digits_label zero h = nought
digits_label (suc x) h = go (digits 4 (suc x)) (written 4 (suc x) (omega arith) h)
  where
    go : (s : List ℕ) → Written 4 (suc x) s → Label s (suc x)
    go s w = subst₂ Label (sym w.split) w.value (number w.first w.rest w.all w.no_zero (omega (arith, w.few)))

step : (k x : ℕ) → length (digits (suc k) x) ≡ cond (ltb x 10) 1 (length (digits k (x / 10)) + 1)
unfolding digits
step k x = go (ltb x 10)
  where
    go : (b : Bool) → length (cond b ((48 + x) ∷ []) (digits k (x / 10) ++ ((48 + x % 10) ∷ []))) ≡ cond b 1 (length (digits k (x / 10)) + 1)
    go true = refl
    go false = length-append (digits k (x / 10)) ((48 + x % 10) ∷ [])

last : (x : ℕ) → length (digits 1 x) ≡ 1
unfolding digits
last x = go (ltb x 10)
  where
    go : (b : Bool) → length (cond b ((48 + x) ∷ []) ((48 + x % 10) ∷ [])) ≡ 1
    go true = refl
    go false = refl

pub digits_length : (x : ℕ) → length (digits 4 x) ≡ digit_count x
unfolding digit_count
digits_length x = go (ltb x 10) refl (ltb x 100) refl (ltb x 1000) refl
  where
    go : (a : Bool) → ltb x 10 ≡ a → (b : Bool) → ltb x 100 ≡ b → (c : Bool) → ltb x 1000 ≡ c → length (digits 4 x) ≡ cond a 1 (cond b 2 (cond c 3 4))
    go true e b f c g = rw (step 3 x, e)
    go false e true f c g =
        let l : x < 100 = ltb-true x 100 f in
        let m : ltb (x / 10) 10 ≡ true = lt-ltb (x / 10) 10 (omega arith) in
        rw (step 3 x, e, step 2 (x / 10), m)
    go false e false f true g =
        let k : 100 ≤ x = ltb-false x 100 f in
        let l : x < 1000 = ltb-true x 1000 g in
        let m : ltb (x / 10) 10 ≡ false = le-ltb (x / 10) 10 (omega arith) in
        let n : ltb (x / 10 / 10) 10 ≡ true = lt-ltb (x / 10 / 10) 10 (omega arith) in
        rw (step 3 x, e, step 2 (x / 10), m, step 1 (x / 10 / 10), n)
    go false e false f false g =
        let l : 1000 ≤ x = ltb-false x 1000 g in
        let m : ltb (x / 10) 10 ≡ false = le-ltb (x / 10) 10 (omega arith) in
        let n : ltb (x / 10 / 10) 10 ≡ false = le-ltb (x / 10 / 10) 10 (omega arith) in
        rw (step 3 x, e, step 2 (x / 10), m, step 1 (x / 10 / 10), n, last (x / 10 / 10 / 10))

-- the digits, one by one
pub digits_one : (k x : ℕ) → x < 10 → digits (suc k) x ≡ (48 + x) ∷ []
unfolding digits
digits_one k x h = rw (lt-ltb x 10 h)

digits_more : (k x : ℕ) → 10 ≤ x → digits (suc k) x ≡ digits k (x / 10) ++ ((48 + x % 10) ∷ [])
unfolding digits
digits_more k x h = rw (le-ltb x 10 h)

pub digits_two : (k x : ℕ) → 10 ≤ x → x < 100 → digits (suc (suc k)) x ≡ two_digits x
digits_two k x h g = digits_more (suc k) x h ∙ ap (λ (l : List ℕ). l ++ ((48 + x % 10) ∷ [])) (digits_one k (x / 10) (omega arith))

-- the last two digits of a number, behind the others
last_two : (k x : ℕ) → 100 ≤ x → digits (suc (suc k)) x ≡ digits k (x / 100) ++ two_digits (x - 100 * (x / 100))
last_two k x h =
    let p : x / 10 / 10 ≡ x / 100 = omega arith in
    let q : x / 10 % 10 ≡ (x - 100 * (x / 100)) / 10 = omega arith in
    let r : x % 10 ≡ (x - 100 * (x / 100)) % 10 = omega arith in
    digits_more (suc k) x (omega arith) ∙ ap (λ (l : List ℕ). l ++ ((48 + x % 10) ∷ [])) (digits_more k (x / 10) (omega arith))
    ∙ append_assoc (digits k (x / 10 / 10)) ((48 + x / 10 % 10) ∷ []) ((48 + x % 10) ∷ []) ∙ rw (p, q, r)

pub digits_three : (k x : ℕ) → 100 ≤ x → x < 1000 → digits (suc (suc (suc k))) x ≡ (48 + x / 100) ∷ two_digits (x - 100 * (x / 100))
digits_three k x h g = last_two (suc k) x h ∙ ap (λ (l : List ℕ). l ++ two_digits (x - 100 * (x / 100))) (digits_one k (x / 100) (omega arith))

pub digits_four : (k x : ℕ) → 1000 ≤ x → x < 10000 → digits (suc (suc (suc (suc k)))) x ≡ two_digits (x / 100) ++ two_digits (x - 100 * (x / 100))
digits_four k x h g = last_two (suc (suc k)) x (omega arith) ∙ ap (λ (l : List ℕ). l ++ two_digits (x - 100 * (x / 100))) (digits_two k (x / 100) (omega arith) (omega arith))
