-- Samples of the grammar: numbers in decimal, 01's refused texts, texts with blanks, long and deep ones.
-- Main results: decimals, digits_hold, blanks_hold, wrong_labels, several_faults, broken_texts, blank_texts, long_texts, levels_hold.
use Rattle.std.specs.Prelude.{true, false, ◌≢◌, List, [], ◌∷◌, ◌++◌, map, ◌≡◌, refl, ℕ, zero, suc, ◌≤◌, ◌<◌, length, get_or, replicate}
use Rattle.std.proofs.lemmas.Bool.{false≢true}
use Rattle.std.proofs.Common.{append_assoc, sym, ap, ◌∙◌, arith, length-append}
use Rattle.std.proofs.Math.Option.{none, some}
use Rattle.std.proofs.Math.Bridge.{le_by_compare, IsLe}
use Rattle.rules.specs.Names.{not_below, used_before, name_fault}
use Rattle.rules.specs.Tree.{Tree, leaf, node}
use Rattle.rules.specs.Newick.{pair_text, text_of, is_digit, all_digits, value_from, nought, number, Node, label, pair, Text, text, Begins, broken, ended, labels_of, label_fault}
use Rattle.rules.specs.Sent.{blank, signs, parted, SentText}
use Rattle.rules.specs.Answer.{made, refuses}
use Rattle.rules.specs.CallFromNewick.{from_labels, FromText, too_long, too_many_signs}
use Rattle.rules.proofs.Samples.{bytes, node_0, node_1, digit, breaks_few, reads_few}

-- numbers in decimal
decimals : map (λ x. text_of (leaf x)) (0 ∷ 9 ∷ 10 ∷ 99 ∷ 100 ∷ 999 ∷ 1000 ∷ 1023 ∷ []) ≡ map bytes ("0;" ∷ "9;" ∷ "10;" ∷ "99;" ∷ "100;" ∷ "999;" ∷ "1000;" ∷ "1023;" ∷ [])
unfolding text_of
decimals = refl

-- which bytes are digits, and which labels they make
digits_hold : (map is_digit (47 ∷ 48 ∷ 57 ∷ 58 ∷ []) ≡ false ∷ true ∷ true ∷ false ∷ []) × (map all_digits ((49 ∷ 44 ∷ []) ∷ (44 ∷ 49 ∷ []) ∷ []) ≡ false ∷ false ∷ [])
    × (labels_of (bytes "(12,345);") ≡ (1, 12) ∷ (4, 345) ∷ [])
unfolding is_digit all_digits labels_of
digits_hold = (refl, refl, refl)

-- which bytes are blanks: not the vertical tab, the form feed, 0 and 160; and whether one stands inside a label
blanks_hold : (map blank (32 ∷ 9 ∷ 13 ∷ 10 ∷ 11 ∷ 12 ∷ 0 ∷ 160 ∷ []) ≡ true ∷ true ∷ true ∷ true ∷ false ∷ false ∷ false ∷ false ∷ [])
    × (signs (bytes " ( 0,\t1 )\r\n; ") ≡ bytes "(0,1);") × (map parted (map bytes ("1 2" ∷ "1 \n2" ∷ "1, 2" ∷ " 12 " ∷ "1 ,2" ∷ [])) ≡ true ∷ true ∷ false ∷ false ∷ false ∷ [])
unfolding blank signs parted
blanks_hold = (refl, refl, refl)

-- what is wrong with a label, and where; one that is both is said to be not below n
wrong_labels : (label_fault (bytes "(0,0);") ≡ some (used_before, 3)) × (label_fault (bytes "5;") ≡ some (not_below, 0))
    × (name_fault 2 (7 ∷ []) 7 ≡ some not_below) × (name_fault 2 (1 ∷ []) 1 ≡ some used_before) × (name_fault 2 (0 ∷ []) 1 ≡ none)
unfolding label_fault name_fault
wrong_labels = (refl, refl, refl, refl, refl)

-- of several labels at fault the first counts, whichever fault it has; a label is double where it stands again
several_faults : FromText (bytes "((0,7),0);") (refuses 9 4) × FromText (bytes "((0,0),7);") (refuses 13 4)
    × FromText (bytes "((1,0),1);") (refuses 13 7) × FromText (bytes "(7,7);") (refuses 9 1)
unfolding from_labels pair_text signs parted IsLe all_digits value_from
several_faults = (
  reads_few tt tt refl (text (pair (pair node_0 node_7) node_0)),
  reads_few tt tt refl (text (pair (pair node_0 node_0) node_7)),
  reads_few tt tt refl (text (pair (pair node_1 node_0) node_1)),
  reads_few tt tt refl (text (pair node_7 node_7)),
)
  where
    node_7 : {d : ℕ} → Node d (55 ∷ []) (leaf 7)
    node_7 = digit 55 refl refl

-- What stands at the first places of a text, and at its last.
begins_well : {s : List ℕ} {t : Tree} → Text s t → (1 ≤ length s) × (get_or s 0 0 ≢ 41)
unfolding pair_text all_digits is_digit
begins_well (text (label nought)) = (omega arith, λ e. omega arith)
begins_well (text (label (number c s h k l))) = (omega arith, λ e. false≢true (rw e at h))
begins_well (text (pair n m)) = (omega arith, λ e. omega arith)

ends_well : {s : List ℕ} {t : Tree} → Text s t → (k : ℕ) → length s ≡ suc k → get_or s k 0 ≡ 59
ends_well (text {s} n) k e = rw (let z : k ≡ length s = omega (arith, length-append s (59 ∷ [])) in z) (last s)
  where
    last : (s : List ℕ) → get_or (s ++ (59 ∷ [])) (length s) 0 ≡ 59
    last [] = refl
    last (x ∷ s) = last s

-- behind "0" no digit follows
nought_alone : {s : List ℕ} {t : Tree} → Text s t → get_or s 0 0 ≡ 48 → get_or s 1 0 ≢ 49
unfolding pair_text
nought_alone (text (label nought)) e f = omega arith
nought_alone (text (label (number c s h k l))) e f = false≢true (sym k ∙ rw e)
nought_alone (text (pair n m)) e f = omega arith

-- behind four digits no fifth follows
four_digits : {s : List ℕ} {t : Tree} → Text s t → get_or s 0 0 ≡ 49 → get_or s 1 0 ≡ 50 → get_or s 2 0 ≡ 51 → get_or s 3 0 ≡ 52 → get_or s 4 0 ≢ 53
unfolding pair_text
four_digits (text (label nought)) e₀ e₁ e₂ e₃ e₄ = omega arith
four_digits (text (label (number c [] h k l))) e₀ e₁ e₂ e₃ e₄ = omega arith
four_digits (text (label (number c (x ∷ []) h k l))) e₀ e₁ e₂ e₃ e₄ = omega arith
four_digits (text (label (number c (x ∷ y ∷ []) h k l))) e₀ e₁ e₂ e₃ e₄ = omega arith
four_digits (text (label (number c (x ∷ y ∷ z ∷ []) h k l))) e₀ e₁ e₂ e₃ e₄ = omega arith
four_digits (text (label (number c (x ∷ y ∷ z ∷ w ∷ s) h k l))) e₀ e₁ e₂ e₃ e₄ = omega arith
four_digits (text (pair n m)) e₀ e₁ e₂ e₃ e₄ = omega arith

-- behind the second node of a pair no comma follows
two_nodes : {s : List ℕ} {t : Tree} → Text s t → get_or s 0 0 ≡ 40 → get_or s 1 0 ≡ 48 → get_or s 2 0 ≡ 44 → get_or s 3 0 ≡ 49 → get_or s 4 0 ≢ 44
unfolding pair_text all_digits is_digit
two_nodes (text (label nought)) e₀ e₁ e₂ e₃ e₄ = omega arith
two_nodes (text (label (number c s h k l))) e₀ e₁ e₂ e₃ e₄ = false≢true (rw e₀ at h)
two_nodes (text (pair (label nought) (label nought))) e₀ e₁ e₂ e₃ e₄ = omega arith
two_nodes (text (pair (label nought) (label (number c [] h k l)))) e₀ e₁ e₂ e₃ e₄ = omega arith
two_nodes (text (pair (label nought) (label (number c (x ∷ s) h k l)))) e₀ e₁ e₂ e₃ e₄ = false≢true (rw (e₃, e₄) at h)
two_nodes (text (pair (label nought) (pair n m))) e₀ e₁ e₂ e₃ e₄ = omega arith
two_nodes (text (pair (label (number c s h k l)) m)) e₀ e₁ e₂ e₃ e₄ = false≢true (sym k ∙ rw e₁)
two_nodes (text (pair (pair n m) o)) e₀ e₁ e₂ e₃ e₄ = omega arith

-- 01's texts that break the grammar, each with a text that begins as it does up to its place
broken_texts : FromText (bytes "") (refuses 8 0) × FromText (bytes "01;") (refuses 8 1) × FromText (bytes "(0,1)") (refuses 8 5)
    × FromText (bytes "(0,1,2);") (refuses 8 4) × FromText (bytes "12345;") (refuses 8 4) × FromText (replicate 6056 41) (refuses 8 0)
unfolding Begins IsLe pair_text signs parted all_digits value_from
broken_texts = (
  breaks_few tt tt (ended nothing (λ t k. let l = (begins_well k.reads).0 in omega arith)),
  breaks_few tt tt (broken (le_by_compare 2 3 tt) (59 ∷ [], leaf 0, record { reads = text node_0; whole = refl }) (λ w. nought_alone w.2.reads refl refl)),
  breaks_few tt tt (ended (59 ∷ [], _, record { reads = text (pair node_0 node_1); whole = refl }) (λ t k. let e = ends_well k.reads 4 refl in omega arith)),
  breaks_few tt tt
      (broken (le_by_compare 5 8 tt) (bytes ");", _, record { reads = text (pair node_0 node_1); whole = refl }) (λ w. two_nodes w.2.reads refl refl refl refl refl)),
  breaks_few tt tt
      (broken (le_by_compare 5 6 tt) (59 ∷ [], _, record { reads = text (label (number 49 (50 ∷ 51 ∷ 52 ∷ []) refl refl (le_by_compare 3 3 tt))); whole = refl })
      (λ w. four_digits w.2.reads refl refl refl refl refl)),
  breaks_few tt tt (broken (le_by_compare 1 6056 tt) nothing (λ w. (begins_well w.2.reads).1 refl)),
)
  where
    nothing : Begins SentText []
    nothing = (bytes "0;", leaf 0, record { reads = text node_0; whole = refl })

-- behind the sign at the end nothing follows
nothing_behind : {s : List ℕ} {t : Tree} → Text s t → get_or s 0 0 ≡ 48 → get_or s 1 0 ≡ 59 → 2 < length s → ⊥
unfolding pair_text
nothing_behind (text (label nought)) e f l = omega arith
nothing_behind (text (label (number c s h k l))) e f m = false≢true (sym k ∙ rw e)
nothing_behind (text (pair n m)) e f l = omega arith

-- texts with blanks, done and refused: places are "in the bytes as sent", and a text that ends early ends behind its blanks
blank_texts : FromText (bytes "( 0 , 1 ) ; ") (made (0 ∷ 0 ∷ [])) × FromText (bytes "\t(\r\n  1,0);\n") (made (0 ∷ 0 ∷ [])) × FromText (bytes "( 0 , 0 );") (refuses 13 6)
    × FromText (bytes " 5;") (refuses 9 1) × FromText (bytes "1 2;") (refuses 8 2) × FromText (bytes "0 ; x") (refuses 8 4) × FromText (bytes "0 ") (refuses 8 2)
unfolding from_labels Begins IsLe pair_text signs parted all_digits value_from
blank_texts = (
  reads_few tt tt refl (text (pair node_0 node_1)),
  reads_few tt tt refl (text (pair node_1 node_0)),
  reads_few tt tt refl (text (pair node_0 node_0)),
  reads_few tt tt refl (text (digit 53 refl refl)),
  breaks_few tt tt (broken (le_by_compare 3 4 tt) (59 ∷ [], _, record { reads = text node_1; whole = refl }) (λ w. false≢true (sym w.2.whole))),
  breaks_few tt tt (broken (le_by_compare 5 5 tt) ([], _, record { reads = text node_0; whole = refl }) (λ w. nothing_behind w.2.reads refl refl (omega arith))),
  breaks_few tt tt (ended (59 ∷ [], _, record { reads = text node_0; whole = refl }) (λ t k. let e = ends_well k.reads 0 refl in omega arith)),
)

-- a step taken k times
times : {A : Type 0} → (A → A) → ℕ → A → A
times f zero x = x
times f (suc k) x = times f k (f x)

-- pairs upon pairs: f and g say how one more level changes the bytes and the tree
levelled : {d : ℕ} {s : List ℕ} {t : Tree} (f : List ℕ → List ℕ) (g : Tree → Tree) → ((d : ℕ) (s : List ℕ) (t : Tree) → Node d s t → Node (suc d) (f s) (g t))
    → (k : ℕ) → Node d s t → Node (times suc k d) (times f k s) (times g k t)
unfolding times
levelled f g h zero n = n
levelled {d} {s} {t} f g h (suc k) n = levelled f g h k (h d s t n)

twice : List ℕ → List ℕ
unfolding pair_text
twice s = pair_text s s

twiced : {d : ℕ} {s : List ℕ} {t : Tree} (k : ℕ) → Node d s t → Node (times suc k d) (times twice k s) (times (λ t. node t t) k t)
unfolding twice
twiced = levelled twice (λ t. node t t) (λ d s t n. pair n n)

-- 1,158 labels in 6,056 bytes
abbrev long : List ℕ
long =
    pair_text (times twice 10 (bytes "10"))
    (pair_text (times twice 7 (bytes "1000")) (pair_text (times twice 2 (bytes "1000")) (times twice 1 (bytes "1000")))) ++ (59 ∷ [])

-- the order of the refusals: 1 where labels stand twice, 2 where the grammar is broken; 2 of the bytes before 2 of the signs, and blanks do not count
long_texts : FromText long (refuses 1 0) × FromText (replicate 6057 40) (refuses 2 6056) × FromText (replicate 65537 40) (refuses 2 65536)
    × FromText (replicate 65537 32) (refuses 2 65536) × FromText (replicate 6057 32) (refuses 8 6057)
unfolding times twice Begins from_labels pair_text signs parted IsLe all_digits value_from
long_texts = (
  reads_few tt tt refl (text (pair (twiced 10 (label (number 49 (48 ∷ []) refl refl (le_by_compare 1 3 tt))))
      (pair (twiced 7 thousand) (pair (twiced 2 thousand) (twiced 1 thousand))))),
  too_many_signs (le_by_compare 6057 65536 tt) (le_by_compare 6057 6057 tt),
  too_long (le_by_compare 65537 65537 tt),
  too_long (le_by_compare 65537 65537 tt),
  breaks_few tt tt
      (ended (bytes "0;", leaf 0, record { reads = text node_0; whole = refl }) (λ t k. let l = (begins_well k.reads).0 in omega arith)),
)
  where
    thousand : {d : ℕ} → Node d (bytes "1000") (leaf 1000)
    thousand = label (number 49 (48 ∷ 48 ∷ 48 ∷ []) refl refl (le_by_compare 3 3 tt))

-- a node begins with no more brackets than may be open at once
opens : {d : ℕ} {s : List ℕ} {t : Tree} → Node d s t → (rest : List ℕ) (k : ℕ) → ((j : ℕ) → j < k → get_or (s ++ rest) j 0 ≡ 40) → k ≤ d
unfolding pair_text all_digits is_digit
opens n rest zero h = omega arith
opens (label nought) rest (suc k) h = absurd (let e = h 0 (omega arith) in omega arith)
opens (label (number c s a b l)) rest (suc k) h = absurd (false≢true (rw (h 0 (omega arith)) at a))
opens (pair {d} {s} {s'} n m) rest (suc k) h =
    omega (arith, opens n ((44 ∷ s' ++ (41 ∷ [])) ++ rest) k (λ j l. ap (λ (x : List ℕ). get_or x j 0) (sym (append_assoc s (44 ∷ s' ++ (41 ∷ [])) rest)) ∙ h (suc j) (omega arith)))

opened : {s : List ℕ} {t : Tree} → Text s t → (k : ℕ) → ((j : ℕ) → j < k → get_or s j 0 ≡ 40) → k ≤ 1023
opened (text n) k h = opens n (59 ∷ []) k h

brackets : (k : ℕ) (rest : List ℕ) (j : ℕ) → j < k → get_or (replicate k 40 ++ rest) j 0 ≡ 40
brackets zero rest j l = absurd (omega arith)
brackets (suc k) rest zero l = refl
brackets (suc k) rest (suc j) l = brackets k rest j (omega arith)

with_0 : List ℕ → List ℕ
unfolding pair_text
with_0 s = pair_text s (bytes "0")

-- "The nesting may go down 1,023 levels": one text that does, and none that begins with 1,024 brackets
levels_hold : Text (times with_0 1023 (bytes "0") ++ (59 ∷ [])) (times (λ t. node t (leaf 0)) 1023 (leaf 0)) × (Begins Text (replicate 1024 40) → ⊥)
unfolding times with_0 Begins
levels_hold = (
  text (levelled with_0 (λ t. node t (leaf 0)) (λ d s t n. pair n node_0) 1023 node_0),
  λ w. omega (arith, opened w.2 1024 (brackets 1024 w.0)),
)
