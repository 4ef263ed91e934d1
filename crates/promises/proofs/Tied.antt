-- Each contract is what the promises are drawn from: by computation, from the contracts themselves. Assumes nothing.
use mathlib.Core.Path.{refl}
use seplogic.Ra.Ura.{Ura}
use base.Logic.{SProp}
use prog.Memory.{Memory}
use prog.Routine.{Routine}
use types.Logic.{Logic}
use contract.Monad.{Fun}
use Rattle.ma_tree.specs.contracts.ostrovuc_learn as learning
use Rattle.ma_tree.specs.contracts.ostrovuc_deepen as deepening
use Rattle.ma_tree.specs.contracts.ostrovuc_lookup as looking-up
use Rattle.ma_tree.specs.contracts.ostrovuc_leaf_contexts as numbering
use Rattle.ma_tree.specs.contracts.ostrovuc_write_symbols as writing-symbols
use Rattle.ma_tree.specs.contracts.ostrovuc_read_symbols as reading-symbols
use Rattle.ma_tree.specs.contracts.ostrovuc_evenly_sampled_indices as sampling
use Rattle.ma_tree.specs.contracts.ostrovuc_pack_signed as packing
use Rattle.ma_tree.specs.contracts.ostrovuc_uint_encode as encoding
use Rattle.ma_tree.specs.contracts.ostrovuc_token_value as reading
use Rattle.promises.specs.Tied.{Says, LearningRun, DeepeningRun, LookingUpRun, NumberingRun, WritingSymbolsRun, ReadingSymbolsRun, SamplingRun, PackingRun, EncodingRun, ReadingRun}

module _ {M : Type 1} {𝓤 : Ura M} (𝓛 : Logic 𝓤) (mem : Memory → SProp 𝓤) (run : Routine → Fun 𝓤) where
  -- ---- every public operation has its line here
  pub learning_tied : Says 𝓤 learning.ended (learning.clauses 𝓛 mem run) (λ κs a r w. LearningRun a r w)
  learning_tied = record { asks = λ κs a g. refl; says = λ κs a g r w. refl }

  pub deepening_tied : Says 𝓤 deepening.ended (deepening.clauses 𝓛 mem run) (λ κs a r w. DeepeningRun a r w)
  deepening_tied = record { asks = λ κs a g. refl; says = λ κs a g r w. refl }

  pub looking_up_tied : Says 𝓤 looking-up.ended (looking-up.clauses 𝓛 mem run) (λ κs a r w. LookingUpRun a r)
  looking_up_tied = record { asks = λ κs a g. refl; says = λ κs a g r w. refl }

  pub numbering_tied : Says 𝓤 numbering.ended (numbering.clauses 𝓛 mem run) (λ κs a r w. NumberingRun a r w)
  numbering_tied = record { asks = λ κs a g. refl; says = λ κs a g r w. refl }

  pub writing_symbols_tied : Says 𝓤 writing-symbols.ended (writing-symbols.clauses 𝓛 mem run) (λ κs a r w. WritingSymbolsRun a r w)
  writing_symbols_tied = record { asks = λ κs a g. refl; says = λ κs a g r w. refl }

  pub reading_symbols_tied : Says 𝓤 reading-symbols.ended (reading-symbols.clauses 𝓛 mem run) (λ κs a r w. ReadingSymbolsRun a r w)
  reading_symbols_tied = record { asks = λ κs a g. refl; says = λ κs a g r w. refl }

  pub sampling_tied : Says 𝓤 sampling.ended (sampling.clauses 𝓛 mem run) (λ κs a r w. SamplingRun a r w)
  sampling_tied = record { asks = λ κs a g. refl; says = λ κs a g r w. refl }

  pub packing_tied : Says 𝓤 packing.ended (packing.clauses 𝓛 mem run) (λ κs a r w. PackingRun a r)
  packing_tied = record { asks = λ κs a g. refl; says = λ κs a g r w. refl }

  pub encoding_tied : Says 𝓤 encoding.ended (encoding.clauses 𝓛 mem run) (λ κs a r w. EncodingRun a r)
  encoding_tied = record { asks = λ κs a g. refl; says = λ κs a g r w. refl }

  pub reading_tied : Says 𝓤 reading.ended (reading.clauses 𝓛 mem run) (λ κs a r w. ReadingRun a r)
  reading_tied = record { asks = λ κs a g. refl; says = λ κs a g r w. refl }
