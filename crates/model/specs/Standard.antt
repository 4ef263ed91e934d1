-- How ISO/IEC 18181-1 reads signed numbers, hybrid integers and MA trees, and finds a leaf. Assumes nothing.
use Rattle.std.specs.Prelude.{◌≡◌, ℕ, suc, ◌+◌, ◌-◌, ◌*◌, ◌/◌, ◌%◌, ◌^◌, cond, List, [], ◌∷◌, ◌++◌, get_or, ltb, eqb, ℤ, pos, neg_ℤ}
use Rattle.std.specs.Int.Signed.{lt_z}
use Rattle.model.specs.declared.Symbol.{Symbol}

-- UnpackSigned: an even u is u / 2, an odd u is -(u + 1) / 2
unfoldable pub unpack_signed : ℕ → ℤ
unpack_signed u = cond (eqb (u % 2) 0) (pos (u / 2)) (neg_ℤ (pos ((u + 1) / 2)))

-- how a hybrid integer is cut: values below 2 ^ split_exponent are tokens; a larger one keeps in its token the msb_in_token bits after its top bit and its
-- lsb_in_token lowest bits
pub record HybridConfig : Type 0 where
  pub split_exponent : ℕ
  pub msb_in_token : ℕ
  pub lsb_in_token : ℕ

-- how many extra bits follow a token
unfoldable pub hybrid_bits : HybridConfig → ℕ → ℕ
hybrid_bits c token =
    cond (ltb token (2 ^ c.split_exponent))
    0
    (c.split_exponent - (c.msb_in_token + c.lsb_in_token) + (token - 2 ^ c.split_exponent) / 2 ^ (c.msb_in_token + c.lsb_in_token))

-- the value of a token and the number that its extra bits hold; from the top: a 1, the token's msb_in_token bits, the extra bits, the token's lsb_in_token bits
unfoldable pub read_hybrid : HybridConfig → ℕ → ℕ → ℕ
read_hybrid c token extra =
    let low = token % 2 ^ c.lsb_in_token in
    let high = 2 ^ c.msb_in_token + token / 2 ^ c.lsb_in_token % 2 ^ c.msb_in_token in
    cond (ltb token (2 ^ c.split_exponent)) token ((high * 2 ^ hybrid_bits c token + extra) * 2 ^ c.lsb_in_token + low)

-- the configuration that 01's tokens have, the Rust's `HybridUintConfig::DEFAULT`
abbrev pub default_config : HybridConfig
default_config = record { split_exponent = 4; msb_in_token = 2; lsb_in_token = 0 }

-- ---- MA trees
-- what a leaf carries: the context of its tokens, its predictor and its offset. (Its multiplier is left out: it is 1 in every tree here)
pub record MaLeaf : Type 0 where
  pub context : ℕ
  pub predictor : ℕ
  pub offset : ℤ

-- a decision on a property at a value, with its left and its right child; or a leaf
pub data MaTree : Type 0 where
  decision : ℕ → ℤ → MaTree → MaTree → MaTree
  leaf_node : MaLeaf → MaTree

-- the leaf for a sample's properties: from the root on, a property above the decision's value leads to the left child, else to the right one
unfoldable pub leaf_for : List ℤ → MaTree → MaLeaf
leaf_for properties (leaf_node l) = l
leaf_for properties (decision k value left right) =
    cond (lt_z value (get_or properties k (pos 0))) (leaf_for properties left) (leaf_for properties right)

-- How a decoder that has read `next` leaves reads the nodes that wait in its queue: a leaf gets the context `next`; a decision's children wait behind all others, the
-- left one first (the reference decoder numbers them size + to_decode + 1 and + 2)
pub data ReadFrom : ℕ → List MaTree → Type 0 where
  at-end : {next : ℕ} → ReadFrom next []
  at_leaf : {next : ℕ} {l : MaLeaf} {queue : List MaTree} → l.context ≡ next → ReadFrom (suc next) queue → ReadFrom next (leaf_node l ∷ queue)
  at-decision : {next k : ℕ} {value : ℤ} {left right : MaTree} {queue : List MaTree}
      → ReadFrom next (queue ++ (left ∷ right ∷ []))
      → ReadFrom next (decision k value left right ∷ queue)

-- the leaves have the contexts that a decoder gives them: it starts with the root alone in its queue, and has read no leaf
abbrev pub IsDecoded : MaTree → Type 0
IsDecoded tree = ReadFrom 0 (tree ∷ [])

-- ---- how an MA tree is transmitted: as numbers, each coded in one of six contexts
abbrev pub split_val_context : ℕ
split_val_context = 0

abbrev pub property_context : ℕ
property_context = 1

abbrev pub predictor_context : ℕ
predictor_context = 2

abbrev pub offset_context : ℕ
offset_context = 3

abbrev pub multiplier_log_context : ℕ
multiplier_log_context = 4

abbrev pub multiplier_bits_context : ℕ
multiplier_bits_context = 5

abbrev pub symbol : ℕ → ℕ → Symbol
symbol context value = record { context = context; value = value }

-- a decision: its property + 1, then its value, which is read by UnpackSigned
abbrev pub decision_symbols : ℕ → ℕ → List Symbol
decision_symbols property value = symbol property_context (suc property) ∷ symbol split_val_context value ∷ []

-- a leaf: 0 in a property's place, its predictor, its offset, which is read by UnpackSigned, and two numbers that say its multiplier, (bits + 1) × 2 ^ log
abbrev pub leaf_symbols : ℕ → ℕ → ℕ → ℕ → List Symbol
leaf_symbols predictor offset log bits =
    symbol property_context 0 ∷ symbol predictor_context predictor ∷ symbol offset_context offset ∷ symbol multiplier_log_context log ∷ symbol multiplier_bits_context bits ∷ []

-- What a decoder makes of symbols that it accepts: the trees that wait in its queue, in the order of `ReadFrom`. (Which properties and predictors there are is not said here.) A leaf's multiplier
-- is 1, so log and bits are 0
pub data Transmits : List Symbol → List MaTree → Type 0 where
  all-read : Transmits [] []
  leaf-read : {offset : ℕ} {l : MaLeaf} {xs : List Symbol} {queue : List MaTree} → unpack_signed offset ≡ l.offset → Transmits xs queue
      → Transmits (leaf_symbols l.predictor offset 0 0 ++ xs) (leaf_node l ∷ queue)
  decision-read : {k v : ℕ} {value : ℤ} {left right : MaTree} {xs : List Symbol} {queue : List MaTree} → unpack_signed v ≡ value
      → Transmits xs (queue ++ (left ∷ right ∷ []))
      → Transmits (decision_symbols k v ++ xs) (decision k value left right ∷ queue)
