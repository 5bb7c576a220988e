-- How bits are held while a field is put behind them: pushed in from below, and all that is held stored as one word.
-- Main results: put_counted, none_held.
use mathlib.Core.Path.{◌≡◌, refl, sym, ap, ◌∙◌}
use mathlib.Core.List.{List, [], ◌∷◌, ◌++◌, append-nil}
use Prim.Native.Nat.{ℕ, ◌+◌, ◌-◌, ◌*◌, ◌/◌, ◌%◌, ◌^◌, ◌≤◌, ◌<◌}
use native.Mathlib.Nat.{mul-mod_left, add-zero, div-one}
use native.Mathlib.Numerals.{add-one}
use native.Mathlib.Omega.{arith}
use lib.ListN.{length, take, drop, length-append, length-take, length-drop, take-append-drop, replicate}
use Rattle.std.specs.Int.{w64, to_be_bytes}
use Rattle.std.proofs.Common.{append_assoc}
use Rattle.std.proofs.Math.Seq.{take-append_seam}
use lib.Seq.{drop-drop, drop-append-le, take-take}
use lib.Bits.{bit_or, or_shifted}
use lib.Pow.{shl-shr, mod-pow-add, mod-mod-pow, high, low}
use Rattle.rules.specs.Record.{Bits, field, number, bytes_of}
use Rattle.record_laws.specs.Number.{AreBits}
use Rattle.record_laws.proofs.Number.{are_append, are_drop, are_field, length_field, number_lt, number_append, number_of_field}
use Rattle.record_laws.specs.Bytes.{byte_at}
use Rattle.record_laws.proofs.Bytes.{bytes_snoc, bytes_prefix, bytes_take, word_byte}
use Rattle.bit_writer.specs.Pending.{HoldsBits, word_stored}

-- the low bits of a shifted word are those of the word, shifted
shifted : (a w j : ℕ) → a * 2 ^ w % 2 ^ (j + w) ≡ a % 2 ^ j * 2 ^ w
shifted a w j =
    mod-pow-add (a * 2 ^ w) j w
    ∙ rw (shl-shr a w, mul-mod_left a (2 ^ w), add-zero (a % 2 ^ j * 2 ^ w))

-- bits pushed in from below
pushed : (acc have w x : ℕ) → have + w ≤ 64 → x < 2 ^ w → bit_or (acc * 2 ^ w % 2 ^ 64) x % 2 ^ (have + w) ≡ acc % 2 ^ have * 2 ^ w + x
pushed acc have w x h l =
    let e : 64 ≡ (64 - have - w + have) + w = omega arith in
    ap (λ (k : ℕ). bit_or (acc * 2 ^ w % 2 ^ k) x % 2 ^ (have + w)) e
    ∙ ap (λ (n : ℕ). bit_or n x % 2 ^ (have + w)) (shifted acc w (64 - have - w + have))
    ∙ ap (λ (n : ℕ). n % 2 ^ (have + w)) (or_shifted (acc % 2 ^ (64 - have - w + have)) w x l)
    ∙ mod-pow-add (acc % 2 ^ (64 - have - w + have) * 2 ^ w + x) have w
    ∙ rw (high (acc % 2 ^ (64 - have - w + have)) w l, low (acc % 2 ^ (64 - have - w + have)) w l, mod-mod-pow acc (64 - have - w) have)

-- one byte more
byte_next : (bits : Bits) (k next : ℕ) (ys : List ℕ) (y : ℕ) → next ≡ k + 1 → y ≡ byte_at bits k → bytes_of k bits ++ (y ∷ ys) ≡ bytes_of next bits ++ ys
byte_next bits k next ys y e b = rw (e, add-one k, bytes_snoc k bits, b) (sym (append_assoc (bytes_of k bits) (byte_at bits k ∷ []) ys))

module _ (bits : Bits) (are : AreBits bits) (at have : ℕ) (count : length bits ≡ 8 * at + have) (few : have ≤ 64) (word : ℕ) (held : word ≡ number (drop (8 * at) bits) * 2 ^ (64 - have)) where
  -- a byte of the word that holds the bits from byte at on, and then zero bits
  byte : (k m : ℕ) → 8 * k + 8 + m ≡ 64 → word / 2 ^ m % 256 ≡ byte_at bits (at + k)
  unfolding byte_at
  byte k m e =
      let size : length (drop (8 * at) bits) ≡ have = rw length-drop (omega arith) in
      let place : 8 * at + 8 * k ≡ 8 * (at + k) = omega arith in
      rw (held, ← size) (word_byte (drop (8 * at) bits) k m (are_drop (8 * at) bits are) (omega arith) e)
      ∙ ap (λ (bs : Bits). number (take 8 (bs ++ replicate 8 0))) (drop-drop (8 * k) (8 * at) bits ∙ ap (λ (j : ℕ). drop j bits) place)

  -- its eight bytes are those that follow
  word_bytes : bytes_of at bits ++ to_be_bytes w64 word ≡ bytes_of (at + 8) bits
  word_bytes =
      byte_next bits at (at + 1) _ _ refl (byte 0 56 refl ∙ ap (byte_at bits) (add-zero at))
      ∙ byte_next bits (at + 1) (at + 2) _ _ (omega arith) (byte 1 48 refl)
      ∙ byte_next bits (at + 2) (at + 3) _ _ (omega arith) (byte 2 40 refl)
      ∙ byte_next bits (at + 3) (at + 4) _ _ (omega arith) (byte 3 32 refl)
      ∙ byte_next bits (at + 4) (at + 5) _ _ (omega arith) (byte 4 24 refl)
      ∙ byte_next bits (at + 5) (at + 6) _ _ (omega arith) (byte 5 16 refl)
      ∙ byte_next bits (at + 6) (at + 7) _ _ (omega arith) (byte 6 8 refl)
      ∙ byte_next bits (at + 7) (at + 8) _ _ (omega arith) (ap (λ (n : ℕ). n % 256) (sym (div-one word)) ∙ byte 7 0 refl)
      ∙ append-nil _

  -- the word is stored
  word_stored_lem : (buffer : List ℕ) → take at buffer ≡ bytes_of at bits → at + 8 ≤ length buffer → take (at + 8) (word_stored buffer at word) ≡ bytes_of (at + 8) bits
  unfolding word_stored
  word_stored_lem buffer whole room =
      let front : length (take at buffer ++ to_be_bytes w64 word) ≡ at + 8 = simp (length-append, length-take) (omega arith) in
      rw front at (take-append_seam (take at buffer ++ to_be_bytes w64 word) (drop (at + 8) buffer))
      ∙ ap (λ (s : List ℕ). s ++ to_be_bytes w64 word) whole
      ∙ word_bytes

module _ (bits : Bits) (acc have at : ℕ) (buffer : List ℕ) (w x : ℕ) (r : HoldsBits bits acc have at buffer) (h : have + w < 64) (l : x < 2 ^ w) (room : at + 8 ≤ length buffer) where
  abbrev next : ℕ
  next = bit_or (acc * 2 ^ w % 2 ^ 64) x

  abbrev more : Bits
  more = bits ++ field w x

  are_more : AreBits more
  are_more = are_append bits (field w x) r.are (are_field w x)

  length_more : length more ≡ 8 * at + (have + w)
  length_more = length-append bits (field w x) ∙ rw (r.count, length_field) (omega arith)

  value_more : next % 2 ^ (have + w) ≡ number (drop (8 * at) more)
  value_more =
      pushed acc have w x (omega arith) l
      ∙ sym
      (ap number (drop-append-le (8 * at) bits (field w x) (omega (arith, r.count)))
      ∙ number_append (drop (8 * at) bits) (field w x)
      ∙ rw (length_field w x, number_of_field w x l, r.value))

  whole : take at buffer ≡ bytes_of at more
  whole =
      sym (take-take at (at + 1) buffer (omega arith)) ∙ ap (take at) r.stored ∙ bytes_take at (at + 1) bits (omega arith)
      ∙ sym (bytes_prefix at bits (field w x) (omega (arith, r.count)))

  word_more : next * 2 ^ (64 - (have + w)) % 2 ^ 64 ≡ number (drop (8 * at) more) * 2 ^ (64 - (have + w))
  word_more =
      let e : 64 ≡ have + w + (64 - (have + w)) = omega arith in
      ap (λ (k : ℕ). next * 2 ^ (64 - (have + w)) % 2 ^ k) e ∙ shifted next (64 - (have + w)) (have + w) ∙ rw value_more

  -- the low bits of what is held are those behind the whole bytes
  value_left : (d m : ℕ) → have + w ≡ 8 * d + m → next % 2 ^ m ≡ number (drop (8 * (at + d)) more)
  value_left d m e =
      let place : 8 * at + 8 * d ≡ 8 * (at + d) = omega arith in
      sym (mod-mod-pow next (8 * d) m)
      ∙ ap (λ (n : ℕ). n % 2 ^ m)
      (rw e at value_more ∙ ap number (sym (take-append-drop (8 * d) (drop (8 * at) more)))
      ∙ number_append (take (8 * d) (drop (8 * at) more)) (drop (8 * d) (drop (8 * at) more)) ∙ rw size)
      ∙ low (number (take (8 * d) (drop (8 * at) more))) m small
      ∙ ap number (drop-drop (8 * d) (8 * at) more ∙ ap (λ (k : ℕ). drop k more) place)
    where
      size : length (drop (8 * d) (drop (8 * at) more)) ≡ m
      size = rw (length-drop, length-drop, length_more) (omega arith)

      small : number (drop (8 * d) (drop (8 * at) more)) < 2 ^ m
      small = rw size at (number_lt (drop (8 * d) (drop (8 * at) more)) (are_drop (8 * d) (drop (8 * at) more) (are_drop (8 * at) more are_more)))

  put_held : HoldsBits more next ((have + w) % 8) (at + (have + w) / 8) (word_stored buffer at (next * 2 ^ (64 - (have + w)) % 2 ^ 64))
  put_held =
      let stored = word_stored_lem more are_more at (have + w) length_more (omega arith) (next * 2 ^ (64 - (have + w)) % 2 ^ 64) word_more buffer whole room in
      let k : at + (have + w) / 8 + 1 ≤ at + 8 = omega arith in
      record {
        are = are_more;
        count = omega (arith, length_more);
        value = value_left ((have + w) / 8) ((have + w) % 8) (omega arith);
        stored =
            sym (take-take (at + (have + w) / 8 + 1) (at + 8) (word_stored buffer at (next * 2 ^ (64 - (have + w)) % 2 ^ 64)) k)
            ∙ ap (take (at + (have + w) / 8 + 1)) stored
            ∙ bytes_take (at + (have + w) / 8 + 1) (at + 8) more k;
      }

-- the same over the count of the bits
pub put_counted : (bits : Bits) (acc count : ℕ) (buffer : List ℕ) (w x : ℕ) → HoldsBits bits acc (count % 8) (count / 8) buffer → count % 8 + w < 64 → x < 2 ^ w
    → count / 8 + 8 ≤ length buffer
    → HoldsBits (bits ++ field w x) (bit_or (acc * 2 ^ w % 2 ^ 64) x) ((count + w) % 8) ((count + w) / 8)
    (word_stored buffer (count / 8) (bit_or (acc * 2 ^ w % 2 ^ 64) x * 2 ^ (64 - (count % 8 + w)) % 2 ^ 64))
put_counted bits acc count buffer w x r h l room =
    let a : (count % 8 + w) % 8 ≡ (count + w) % 8 = omega arith in
    let b : count / 8 + (count % 8 + w) / 8 ≡ (count + w) / 8 = omega arith in
    rw (a, b) at (put_held bits acc (count % 8) (count / 8) buffer w x r h l room)

-- a field without bits
pub none_held : (bits : Bits) (acc have at : ℕ) (buffer : List ℕ) (w x : ℕ) → w ≡ 0 → HoldsBits bits acc have at buffer → HoldsBits (bits ++ field w x) acc have at buffer
unfolding field
none_held bits acc have at buffer w x e r = rw (e, append-nil bits) r
