-- What calls on the file of an image leave of what its next call is given.
use Rattle.std.proofs.Common.{◌≡◌, ◌≢◌, ℕ, ◌*◌, ◌^◌, ◌<◌, ◌≤◌, Result, Ok, Err, refl, sym, subst, arith}
use Rattle.std.proofs.Math.Nat.{mul-le-mul, pow-le-pow_right}
use Rattle.disk_model.specs.World.{World, Runs, reads_of}
use Rattle.disk_model.specs.declared.depot.WriteRefusal.{WriteRefusal}
use Rattle.disk_model.specs.declared.depot.WriteRefusal.TheVariants as refusals
use Rattle.file_device.specs.Calls.{Puts}
use Rattle.qc_layout.specs.declared.header.Header.{Header}
use Rattle.qc_layout.specs.Disks.{place_of}
use Rattle.qc_alloc.specs.Allocator.{Allocator, IsAllocator}
use Rattle.image_header.specs.Headers.{IsRead}
use Rattle.qc_alloc.proofs.Reading.{seen_on}

-- ---- the file is still one that calls may be made on

pub given_puts_all : {T E : Type 0} {f : ℕ} {a b : World} {result : Result T E} → Puts f a b result → a.given ≤ b.given
given_puts_all puts = puts.calls.run.goes.given

pub given_puts : {T : Type 0} {A : Type 0} {f g : ℕ} {a b : World} (result : Result T WriteRefusal) → (result ≡ Err refusals.NoRoom → A × (b ≡ a))
    → (result ≢ Err refusals.NoRoom → Puts f a b result) → g < a.given → g < b.given
given_puts (Ok value) kept puts below = let more = (puts (λ same. cc)).calls.run.goes.given in omega (arith, more, below)
given_puts (Err refusals.Failed) kept puts below = let more = (puts (λ same. cc)).calls.run.goes.given in omega (arith, more, below)
given_puts {g = g} (Err refusals.NoRoom) kept puts below = subst (λ (w : World). g < w.given) (sym (kept refl).1) below

-- calls that read it leave it as it was read
pub read_on : {h : Header} {f : ℕ} {a b : World} → Runs (reads_of f) a b → IsRead h f a → IsRead h f b
read_on {h} {f} run is = record { bytes = is.bytes; part = is.part; spells = is.spells; told = seen_on (λ c. c ≡ is.bytes) run is.told }

-- ---- numbers

-- a cluster's place fits a word
pub claimable : (a : Allocator) (k : ℕ) → IsAllocator a → k < 2 ^ 32 → place_of a.pool.bits k < 2 ^ 64
unfolding place_of
claimable a k is low =
    let pow : 2 ^ a.pool.bits ≤ 2 ^ 21 = pow-le-pow_right {n = 2} (omega arith) {i = a.pool.bits} {j = 21} is.pool.high in
    let few : 2 ^ a.pool.bits * k ≤ 2097152 * 4294967296 = mul-le-mul {n₁ = 2 ^ a.pool.bits} {m₁ = k} {n₂ = 2097152} {m₂ = 4294967296} pow (omega (arith, low)) in
    omega (arith, few)
