-- Bytes that lie within a store.
use Rattle.std.proofs.Common.{◌≡◌, ℕ, zero, suc, ◌+◌, ◌*◌, ◌<◌, ◌≤◌, List, ◌++◌, length, get_or, take, drop, replicate, sym, refl, ap, ◌∙◌, arith, length-append, length-drop, length-take}
use Rattle.std.proofs.lemmas.List.{append_assoc, drop-drop, drop_at, drop-take, length-take-le, take-append-le, take_at}
use Rattle.std.proofs.lemmas.Slice.{take-put_mid_below, drop-put_mid}
use Rattle.std.specs.Simd.{first_chunks}
use Rattle.format.specs.Laying.{put_at}
use Rattle.disk.specs.Blocks.{size_of, address_of, bytes_at, blocks_at, block_at}

pub bytes_within : (address n : ℕ) (store : List ℕ) → address + n ≤ length store → take n (drop address store) ≡ bytes_at address n store
bytes_within address n store h =
    let behind : n ≤ length (drop address store) = omega (arith, length-drop address store) in
    sym (take-append-le n (drop address store) (replicate n 0) behind)

-- the bytes from the first address of some blocks to their end
pub blocks_between : (start blocks next limit : ℕ) (store : List ℕ) → next ≡ address_of start → limit ≡ address_of (start + blocks) → limit ≤ length store → drop next (take limit store) ≡ blocks_at start blocks store
blocks_between start blocks next limit store first_byte last_byte h =
    let far : limit ≡ address_of start + size_of blocks = omega arith in
    let fits : address_of start + size_of blocks ≤ length store = omega arith in
    ap (λ n. drop n (take limit store)) first_byte
    ∙ ap (λ n. drop (address_of start) (take n store)) far
    ∙ drop-take (address_of start) (size_of blocks) store
    ∙ bytes_within (address_of start) (size_of blocks) store fits

pub block_from : (block start n : ℕ) (store : List ℕ) → start ≡ address_of block → n ≡ 512 → start + n ≤ length store → take n (drop start store) ≡ block_at block store
block_from block start n store first_byte size h =
    let fits : address_of block + 512 ≤ length store = omega arith in
    ap (λ a. take n (drop a store)) first_byte
    ∙ ap (λ k. take k (drop (address_of block) store)) size
    ∙ bytes_within (address_of block) 512 store fits

chunk_at : (k count : ℕ) (store default : List ℕ) → k < count → get_or (first_chunks 512 count store) k default ≡ take 512 (drop (512 * k) store)
chunk_at k zero store default h = absurd (omega arith)
chunk_at zero (suc count) store default h = refl
chunk_at (suc k) (suc count) store default h =
    let further : 512 + 512 * k ≡ 512 * suc k = omega arith in
    chunk_at k count (drop 512 store) default (omega arith)
    ∙ ap (take 512) (drop-drop (512 * k) 512 store)
    ∙ ap (λ n. take 512 (drop n store)) further

-- a chunk of a store's bytes is a block
pub chunk_is_block : (k count : ℕ) (store default : List ℕ) → k < count → 512 * count ≤ length store → get_or (first_chunks 512 count store) k default ≡ block_at k store
chunk_is_block k count store default inside fits =
    chunk_at k count store default inside ∙ block_from k (512 * k) 512 store refl refl (omega arith)

-- bytes that were put within a store are found where they were put
pub put_is_found : (address n : ℕ) (new store : List ℕ) → length new ≡ n → address ≤ length store → bytes_at address n (put_at address new store) ≡ new
put_is_found address n new store size h =
    let rest : List ℕ = drop (length new) (drop address store) in
    let front : length (take address store) ≡ address = length-take-le address store h in
    ap (λ x. take n (x ++ replicate n 0)) (drop_at (take address store) (new ++ rest) address front)
    ∙ ap (take n) (append_assoc new rest (replicate n 0))
    ∙ take_at new (rest ++ replicate n 0) n size

length-put : (address : ℕ) (new store : List ℕ) → address + length new ≤ length store → length (put_at address new store) ≡ length store
length-put address new store h =
    omega (
      arith,
      length-append (take address store) (new ++ drop (length new) (drop address store)),
      length-append new (drop (length new) (drop address store)),
      length-take address store,
      length-drop (length new) (drop address store),
      length-drop address store,
    )

-- bytes before them and behind them stay

pub put_stays_before : (address at n : ℕ) (new store : List ℕ) → at + n ≤ address → address + length new ≤ length store → bytes_at at n (put_at address new store) ≡ bytes_at at n store
put_stays_before address at n new store before h =
    let same_length = length-put address new store h in
    let fits : at + n ≤ length store = omega arith in
    let fits_after : at + n ≤ length (put_at address new store) = omega arith in
    sym (bytes_within at n (put_at address new store) fits_after)
    ∙ sym (drop-take at n (put_at address new store))
    ∙ ap (drop at) (take-put_mid_below address (length new) store new (at + n) before (omega arith))
    ∙ drop-take at n store
    ∙ bytes_within at n store fits

pub put_stays_behind : (address at n : ℕ) (new store : List ℕ) → address + length new ≤ at → address ≤ length store → bytes_at at n (put_at address new store) ≡ bytes_at at n store
put_stays_behind address at n new store behind h =
    ap (λ x. take n (x ++ replicate n 0)) (drop-put_mid address (length new) store new at behind h refl)
