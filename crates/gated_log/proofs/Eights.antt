-- Numbers of eight bytes, there and back.
use Rattle.std.proofs.Common.{◌≡◌, ℕ, ◌+◌, ◌*◌, ◌/◌, ◌%◌, ◌<◌, [], ◌∷◌, refl, ◌∙◌, arith}
use Rattle.gated_log.specs.Format.{u8_bytes, u8_of}

-- four bytes of a number
pub whole4 : (n : ℕ) → n < 4294967296 → n % 256 + 256 * (n / 256 % 256) + 65536 * (n / 65536 % 256) + 16777216 * (n / 16777216 % 256) ≡ n
whole4 n h = omega arith

-- the bytes of the lower half and of the upper one
low : (n m k : ℕ) → n ≡ m + 4294967296 * k → m < 4294967296
    → (n % 256 ≡ m % 256) × (n / 256 % 256 ≡ m / 256 % 256) × (n / 65536 % 256 ≡ m / 65536 % 256) × (n / 16777216 % 256 ≡ m / 16777216 % 256)
low n m k is small = (omega arith, omega arith, omega arith, omega arith)

high : (n m k : ℕ) → n ≡ m + 4294967296 * k → m < 4294967296
    → (n / 4294967296 % 256 ≡ k % 256) × (n / 1099511627776 % 256 ≡ k / 256 % 256) × (n / 281474976710656 % 256 ≡ k / 65536 % 256) × (n / 72057594037927936 % 256 ≡ k / 16777216 % 256)
high n m k is small = (omega arith, omega arith, omega arith, omega arith)

abbrev pub u8_again : ℕ → ℕ
u8_again n = u8_of (n % 256) (n / 256 % 256) (n / 65536 % 256) (n / 16777216 % 256)
    (n / 4294967296 % 256) (n / 1099511627776 % 256) (n / 281474976710656 % 256) (n / 72057594037927936 % 256)

pub whole8 : (n : ℕ) → n < 18446744073709551616 → u8_again n ≡ n
whole8 n small =
    let m = n % 4294967296 in
    let k = n / 4294967296 in
    let is : n ≡ m + 4294967296 * k = omega arith in
    let m_small : m < 4294967296 = omega arith in
    let k_small : k < 4294967296 = omega arith in
    let l = low n m k is m_small in
    let h = high n m k is m_small in
    let front = whole4 m m_small in
    let back = whole4 k k_small in
    omega (arith, l.0, l.1, l.2, l.3, h.0, h.1, h.2, h.3, front, back, is)

-- the bytes of the number of four bytes
four : (a b c d : ℕ) → a < 256 → b < 256 → c < 256 → d < 256 → (n : ℕ) → n ≡ a + 256 * b + 65536 * c + 16777216 * d
    → (n % 256 ≡ a) × (n / 256 % 256 ≡ b) × (n / 65536 % 256 ≡ c) × (n / 16777216 % 256 ≡ d)
four a b c d ha hb hc hd n is = (omega arith, omega arith, omega arith, omega arith)

pub eight : (a b c d e f g h : ℕ) → a < 256 → b < 256 → c < 256 → d < 256 → e < 256 → f < 256 → g < 256 → h < 256
    → u8_bytes (u8_of a b c d e f g h) ≡ a ∷ b ∷ c ∷ d ∷ e ∷ f ∷ g ∷ h ∷ []
eight a b c d e f g h ha hb hc hd he hf hg hh =
    let n = u8_of a b c d e f g h in
    let m = a + 256 * b + 65536 * c + 16777216 * d in
    let k = e + 256 * f + 65536 * g + 16777216 * h in
    let is : n ≡ m + 4294967296 * k = omega arith in
    let small : m < 4294967296 = omega arith in
    let l = low n m k is small in
    let u = high n m k is small in
    let p = four a b c d ha hb hc hd m refl in
    let q = four e f g h he hf hg hh k refl in
    let one : n % 256 ≡ a = l.0 ∙ p.0 in
    let two : n / 256 % 256 ≡ b = l.1 ∙ p.1 in
    let three : n / 65536 % 256 ≡ c = l.2 ∙ p.2 in
    let fourth : n / 16777216 % 256 ≡ d = l.3 ∙ p.3 in
    let five : n / 4294967296 % 256 ≡ e = u.0 ∙ q.0 in
    let six : n / 1099511627776 % 256 ≡ f = u.1 ∙ q.1 in
    let seven : n / 281474976710656 % 256 ≡ g = u.2 ∙ q.2 in
    let last : n / 72057594037927936 % 256 ≡ h = u.3 ∙ q.3 in
    λ i. one i ∷ two i ∷ three i ∷ fourth i ∷ five i ∷ six i ∷ seven i ∷ last i ∷ []

pub eight_small : (a b c d e f g h : ℕ) → a < 256 → b < 256 → c < 256 → d < 256 → e < 256 → f < 256 → g < 256 → h < 256
    → u8_of a b c d e f g h < 18446744073709551616
eight_small a b c d e f g h ha hb hc hd he hf hg hh = omega arith
