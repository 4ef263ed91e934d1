-- What demand 2 says of the standard, from the model's laws and the contracts. Assumes nothing.
use mathlib.Core.Path.{◌≡◌, refl, sym, ap, ◌∙◌}
use mathlib.Core.List.{List, map}
use mathlib.Core.Option.{Option, none, some}
use Prim.Native.Nat.{ℕ, ◌≤◌}
use native.Mathlib.Omega.{arith}
use lib.ListN.{length, length-map}
use lib.IntN.{ℤ}
use Rattle.model.specs.Standard.{MaLeaf, MaTree, leaf_for, read_hybrid, default_config}
use Rattle.model.specs.Token.{extra_count, value_of, encoded_of}
use Rattle.model.specs.Lent.{tree_in}
use Rattle.model.specs.Refuse.{Refusal, token_refusal}
use Rattle.model.specs.Operations.{accepted, outcome_of, token_answer}
use Rattle.model.specs.Decoder.{leaf_in, FindsLeaf}
use Rattle.model.specs.declared.Encoded.{Encoded}
use Rattle.model.proofs.Packing.{unpack_packed}
use Rattle.model.proofs.Tokens.{count_is_standard, value_is_standard, standard_reads_back, encoded-reads}
use Rattle.model.proofs.StandardLookup.{sound_is_standard, lookup_is_standard}
use Rattle.model.proofs.StandardContexts.{contexts_are_standard}
use Rattle.layout.specs.Records.{stored_of}
use Rattle.layout.specs.declared.MaNode.{MaNode}
use Rattle.answers.specs.Answers.{found_in, value_in}
use Rattle.answers.specs.declared.FoundLeaf.{FoundLeaf}
use Rattle.answers.specs.declared.Read.{Read}
use Rattle.ma_tree.specs.Runs.{LookingUp, Encoding, Reading}
use Rattle.promises.specs.Demand2.{Demand2}
use Rattle.promises.proofs.Numbered.{Numbered, no_nought, token-numbered}
use Rattle.promises.proofs.Ran.{numbered}

-- ---- lookup
-- the answer of a lookup that finds a leaf of the standard's
finds : (nodes : List MaNode) (count : ℕ) (contexts : List ℕ) (t : MaTree) (ps : List ℤ) (r : FoundLeaf) → FindsLeaf (map stored_of nodes) count contexts t ps → LookingUp nodes count ps r
    → (r.number ≡ 0) × (leaf_in (tree_in count (map stored_of nodes)) contexts r.leaf ≡ leaf_for ps t) × (r.pred ≡ (leaf_for ps t).predictor)
finds nodes count contexts t ps r (i, found, same) run = rw (run ∙ ap found_in found) (refl, same, refl)

-- ---- tokens
value-told : (o : Option Refusal) (v value : ℕ) → Numbered o → value_in (accepted value) ≡ value_in (outcome_of o v) → value ≡ v
value-told none v value h e = ap (λ (r : Read). r.value) e
value-told (some f) v value h e = absurd (no_nought f h (ap (λ (r : Read). r.number) e))

encodes : (value : ℕ) (r : Encoded) → Encoding value r → (extra_count r.token ≡ r.nbits) × (read_hybrid default_config r.token r.bits ≡ value)
unfolding encoded_of
encodes value r run = rw run (refl, standard_reads_back value)

reads : (token extra value : ℕ) → Reading token extra (value_in (accepted value)) → value ≡ read_hybrid default_config token extra
unfolding token_answer
reads token extra value run = value-told (token_refusal token extra) (value_of token extra) value (token-numbered token extra) run ∙ value_is_standard token extra

pub demand2 : Demand2
demand2 = record {
  looks_up = λ nodes count contexts inside faultless.
      let (t, is) = sound_is_standard (map stored_of nodes) count faultless contexts in
      let fits : count ≤ length (map stored_of nodes) = omega (arith, length-map nodes stored_of) in
      (t, is, λ ps r w run. finds nodes count contexts t ps r (lookup_is_standard (map stored_of nodes) count faultless contexts is fits ps w) run);
  numbers = λ nodes count leaves x y run.
      let (t, d) = contexts_are_standard (map stored_of nodes) count x y leaves (numbered nodes count leaves x y run) in
      (t, d, λ ps r w look. ap (λ (l : MaLeaf). l.context) (finds nodes count y.contexts t ps r (d.finds ps w) look).1);
  packs = λ value r run. rw run (unpack_packed value);
  encodes = λ value r run. let e = encodes value r run in (sym (count_is_standard r.token) ∙ e.0, e.1);
  reads = reads;
  reads_back = λ value e r h enc run. let told : token_answer e.token e.bits ≡ accepted value = rw enc (encoded-reads value h) in run ∙ ap value_in told;
}
