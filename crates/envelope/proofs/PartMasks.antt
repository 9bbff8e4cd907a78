-- Masks of the parts of one action.
use Rattle.std.proofs.Common.{◌≡◌, ℕ, zero, suc, ◌+◌, ◌-◌, ◌*◌, ◌%◌, ◌^◌, ◌<◌, ◌≤◌, Bool, true, false, cond, List, [], map, length, get_or, ℤ, sym, refl, ap, ◌∙◌, one-mul, add-one, arith}
use native.Mathlib.Nat.{two-pow-succ}
use lib.Bits.{bit_or}
use Rattle.std.proofs.lemmas.Nat.{one_shl, or_comm, or_shifted}
use Rattle.std.proofs.lemmas.List.{get_or-map}
use Rattle.envelope.specs.Entries.{mask_of, whole}
use Rattle.envelope.proofs.Bits.{mask_below}

pub whole_power : (n : ℕ) → whole n + 1 ≡ 2 ^ n
whole_power zero = refl
whole_power (suc n) = omega (arith, whole_power n, two-pow-succ n)

-- all of n parts, as the code makes the mask
pub all_made : (n : ℕ) → n ≤ 16 → (1 * 2 ^ n) % 4294967296 - 1 ≡ whole n
all_made n h = omega (arith, one_shl n 32 (omega arith), whole_power n)

-- part i joins a mask of lower parts
pub mask_with : (test : ℕ → Bool) (mask i next : ℕ) → i < 16 → mask ≡ mask_of test i → test i ≡ true → next ≡ bit_or mask ((1 * 2 ^ i) % 65536) → next ≡ mask_of test (i + 1)
mask_with test mask i next h is t e =
    let one : (1 * 2 ^ i) % 65536 ≡ 1 * 2 ^ i = one_shl i 16 h ∙ sym (one-mul (2 ^ i)) in
    let low : mask < 2 ^ i = omega (arith, mask_below test i) in
    let apart : bit_or mask ((1 * 2 ^ i) % 65536) ≡ 1 * 2 ^ i + mask = ap (bit_or mask) one ∙ or_comm mask (1 * 2 ^ i) ∙ or_shifted 1 i mask low in
    let c : cond (test i) (2 ^ i) 0 ≡ 2 ^ i = ap (λ b. cond b (2 ^ i) 0) t in
    let more : mask_of test (i + 1) ≡ mask_of test i + cond (test i) (2 ^ i) 0 = ap (mask_of test) (add-one i) in
    omega (arith, one-mul (2 ^ i))

pub mask_without : (test : ℕ → Bool) (mask i next : ℕ) → mask ≡ mask_of test i → test i ≡ false → next ≡ mask → next ≡ mask_of test (i + 1)
mask_without test mask i next is t e =
    let c : cond (test i) (2 ^ i) 0 ≡ 0 = ap (λ b. cond b (2 ^ i) 0) t in
    let more : mask_of test (i + 1) ≡ mask_of test i + cond (test i) (2 ^ i) 0 = ap (mask_of test) (add-one i) in
    omega arith

-- the components of the part at place i
pub part_read : {E : Type 0} (components : E → List ℤ) (es : List E) (xss : List (List ℤ)) (i : ℕ) (x : E) → map components es ≡ xss → i < length es → x ≡ get_or es i x → get_or xss i [] ≡ components x
part_read components es xss i x is h read = rw (← is) (get_or-map components es i x [] h ∙ sym (ap components read))
