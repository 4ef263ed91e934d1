-- Small jobs and the oracle's answers, written by oracle/cases. Assumes nothing.
use mathlib.Core.List.{List, [], ◌∷◌, ◌++◌}
use lib.ListN.{replicate}
use Rattle.model.specs.Single.{singles}
use Rattle.model.specs.Lent.{Lent, no_waiting}
use Rattle.model.proofs.Agree.Jobs.{word, words, f64, run, node, fill_nodes, pair, fill_pairs, span, fill_spans, fill_waiting}
use Rattle.model.proofs.Agree.Jobs.{settings, lent, tree, refused_tree, leaf_at, no_leaf_at, contexts_are, symbols_are, tree_is, sample_is}
use Rattle.model.proofs.Agree.Jobs.{Job, learning, deepening, looking, numbering, writing, parsing, sampling, packing, encoding}
use Rattle.model.proofs.Agree.Jobs.{reading, mode_step, thresholds, parting, pruning, scoring}
use Rattle.model.proofs.Agree.Jobs.{Answer, naturals, encodings, rebased_to, integers, parted, pruned_to, best_at, none_scored}

-- lookup
abbrev job_0 : Job
job_0 = looking 1 ((node 0 0 0 0 0 0 5 1 0 ∷ []) ++ fill_nodes 4294967295 1 7) (4294964321 ∷ 16817144 ∷ 176 ∷ 788980 ∷ 4294633529 ∷ 876766427 ∷ 4294633529 ∷ 0 ∷ 4 ∷ 2907 ∷ 4 ∷ 2 ∷ 832 ∷ 2 ∷ 4 ∷ 1 ∷ 4 ∷ 190 ∷ 4294966348 ∷ 4294966348 ∷ 4293030011 ∷ 155 ∷ 4294967216 ∷ 4294967216 ∷ [])

abbrev answer_0 : Answer
answer_0 = leaf_at 0 5

-- lookup
abbrev job_1 : Job
job_1 = looking 1 ((node 0 0 0 0 0 0 10 0 0 ∷ []) ++ fill_nodes 1 1 2) (0 ∷ 4294967023 ∷ 1 ∷ 2277 ∷ 40136 ∷ 305 ∷ 40136 ∷ 304 ∷ 4294963023 ∷ 4 ∷ 4294965676 ∷ 3093 ∷ 3 ∷ 4294967055 ∷ 2281 ∷ 0 ∷ 1 ∷ 1 ∷ 3366 ∷ 1728 ∷ 0 ∷ 4294965395 ∷ 1 ∷ 1 ∷ [])

abbrev answer_1 : Answer
answer_1 = leaf_at 0 10

-- lookup
abbrev job_2 : Job
job_2 = looking 7 ((node 1 23 4602 1 2 0 0 0 0 ∷ node 1 17 4294965977 3 4 0 0 0 1 ∷ node 0 0 0 0 0 0 10 1 1 ∷ node 0 0 0 0 0 0 10 0 2 ∷ node 0 0 0 0 0 0 7 0 2 ∷ []) ++ fill_nodes 4014300957 5 2) (4294963163 ∷ 2 ∷ 4294964481 ∷ 63 ∷ 4294963107 ∷ 4294963487 ∷ 4 ∷ 1 ∷ 2 ∷ 0 ∷ 0 ∷ 4294965639 ∷ 4294967217 ∷ 0 ∷ 2180 ∷ 2 ∷ 4294965977 ∷ 4294965977 ∷ 0 ∷ 2 ∷ 5 ∷ 5 ∷ 4602 ∷ 4602 ∷ [])

abbrev answer_2 : Answer
answer_2 = leaf_at 2 10

-- lookup
abbrev job_3 : Job
job_3 = looking 5 ((node 1 23 4294967286 1 2 0 0 0 0 ∷ node 1 6 6 3 4 0 14 0 1 ∷ node 0 0 0 0 0 0 0 1 1 ∷ node 0 0 0 0 0 0 12 2147483647 2 ∷ node 0 0 0 0 0 0 9 2147483648 2 ∷ []) ++ fill_nodes 4104889653 5 0) (4 ∷ [])

abbrev answer_3 : Answer
answer_3 = no_leaf_at 9 0

-- lookup
abbrev job_4 : Job
job_4 = looking 3 ((node 1 19 5 2 1 0 0 0 0 ∷ node 0 0 0 0 0 0 0 0 1 ∷ node 0 0 0 0 0 0 0 2147483647 1 ∷ []) ++ fill_nodes 1101959521 3 0) (10085237 ∷ 1000 ∷ 4294966095 ∷ 3616 ∷ 0 ∷ 0 ∷ 0 ∷ 0 ∷ 557342 ∷ 0 ∷ 4294967266 ∷ 3127 ∷ 4294966822 ∷ 4294962500 ∷ 2 ∷ 1 ∷ 4294966624 ∷ 4174138475 ∷ 365274919 ∷ 7 ∷ 1 ∷ 1 ∷ 1 ∷ 0 ∷ [])

abbrev answer_4 : Answer
answer_4 = leaf_at 2 0

-- lookup
abbrev job_5 : Job
job_5 = looking 5 ((node 1 11 1 4 4 0 0 0 0 ∷ node 1 1 6 3 2 0 0 0 1 ∷ node 0 0 0 0 0 0 8 1 2 ∷ node 0 0 0 0 0 0 1 0 2 ∷ node 0 0 0 0 0 0 7 4294967289 1 ∷ []) ++ fill_nodes 1 5 0) (0 ∷ 5 ∷ 1 ∷ 0 ∷ 2 ∷ 0 ∷ 4294967204 ∷ 4293058146 ∷ 3034228 ∷ 4189 ∷ 4294966864 ∷ 0 ∷ 4294966412 ∷ 4294962796 ∷ 4294966535 ∷ 4651 ∷ 4294966866 ∷ 4294966866 ∷ 307304 ∷ 34 ∷ 3 ∷ 3133 ∷ 4294967256 ∷ 4294967256 ∷ [])

abbrev answer_5 : Answer
answer_5 = leaf_at 4 7

-- lookup
abbrev job_6 : Job
job_6 = looking 5 ((node 1 14 2829 1 2 77146305 2 856850696 0 ∷ node 0 55 1335742605 3164060113 4294967295 2190487572 4 4294967289 1 ∷ node 1 23 74714301 3 4 4091514364 11 3325730272 1 ∷ node 0 201 3785495118 2522385426 1654403556 720544737 4 2147483647 2 ∷ node 0 56 1943495694 1289969471 1083149512 817753274 7 1 2 ∷ []) ++ fill_nodes 2482055879 5 0) (0 ∷ 1512 ∷ 4294966516 ∷ 0 ∷ 0 ∷ 2 ∷ 0 ∷ 2 ∷ 0 ∷ 6 ∷ 4294967196 ∷ 2953 ∷ 3 ∷ 4294966362 ∷ 2829 ∷ 0 ∷ 4294967285 ∷ 9923433 ∷ 0 ∷ 0 ∷ 0 ∷ 5 ∷ 4275947536 ∷ 4275947536 ∷ [])

abbrev answer_6 : Answer
answer_6 = leaf_at 4 7

-- lookup
abbrev job_7 : Job
job_7 = looking 3 ((node 1 6 6 1 3 2973301648 5 2709779273 0 ∷ node 0 34 28208530 1885852096 2042971483 2343362713 2 0 1 ∷ node 0 97 2285408138 3660883517 1745274155 168035343 7 2147483647 1 ∷ []) ++ fill_nodes 98954469 3 7) (0 ∷ 2 ∷ 4294964766 ∷ 55 ∷ 4237 ∷ 3984 ∷ 0 ∷ 3984 ∷ 2 ∷ 0 ∷ 3 ∷ 5 ∷ 5 ∷ 4294967263 ∷ 106087914 ∷ 1 ∷ 4 ∷ 184 ∷ 0 ∷ 4294967250 ∷ 86 ∷ 86 ∷ 1 ∷ 0 ∷ [])

abbrev answer_7 : Answer
answer_7 = no_leaf_at 8 0

-- lookup
abbrev job_8 : Job
job_8 = looking 3 ((node 1 23 4294962555 1 2 1300082383 6 445117545 0 ∷ node 0 204 4225692391 1259482689 1476512173 2802501693 10 2147483647 1 ∷ node 0 17 753064676 2287936020 970945945 1414621062 4 0 1 ∷ []) ++ fill_nodes 1531491751 3 0) (4 ∷ 4281048969 ∷ 2 ∷ 779018052 ∷ 4294964082 ∷ 103037156 ∷ 5 ∷ 103037156 ∷ 4294966224 ∷ 4294963295 ∷ 3 ∷ 0 ∷ 3 ∷ 4294966517 ∷ 415 ∷ 4294965490 ∷ 0 ∷ 6 ∷ 5 ∷ 0 ∷ 4294966983 ∷ 2569 ∷ 4294962555 ∷ 4294962555 ∷ [])

abbrev answer_8 : Answer
answer_8 = leaf_at 2 4

-- lookup
abbrev job_9 : Job
job_9 = looking 1 ((node 0 255 0 0 0 0 11 2147483647 0 ∷ []) ++ fill_nodes 1382530307 1 2) (0 ∷ 0 ∷ 5 ∷ 4 ∷ 38720027 ∷ 2 ∷ 38720027 ∷ 1 ∷ 6 ∷ 3 ∷ 3 ∷ 402 ∷ 0 ∷ 2598 ∷ 4294966106 ∷ 632 ∷ 0 ∷ 4294967295 ∷ 4294907709 ∷ 4294907709 ∷ 184 ∷ 183 ∷ 4294965920 ∷ 4294962340 ∷ [])

abbrev answer_9 : Answer
answer_9 = leaf_at 0 11

-- lookup
abbrev job_10 : Job
job_10 = looking 1 ((node 0 131 1435992841 3083058593 2980258228 1008183038 6 4294967289 0 ∷ []) ++ fill_nodes 3557730183 1 2) (1434 ∷ 3 ∷ 2138 ∷ 4 ∷ 4294963751 ∷ 5 ∷ 4294963751 ∷ 0 ∷ 247 ∷ 4290021023 ∷ 3779 ∷ 4294965078 ∷ 3 ∷ 1 ∷ 0 ∷ 5 ∷ 2 ∷ 0 ∷ 2344 ∷ 2344 ∷ 1 ∷ 0 ∷ 0 ∷ 4294966827 ∷ [])

abbrev answer_10 : Answer
answer_10 = leaf_at 0 6

-- lookup
abbrev job_11 : Job
job_11 = looking 5 ((node 1 1 6 2 1 1811978045 2 3625668171 0 ∷ node 1 18 1 3 4 4029612155 15 2509547781 1 ∷ node 0 136 299725106 773305846 4054524025 2304277808 13 4294967289 1 ∷ node 0 98 1457239172 1042431542 1870860510 4254848044 7 0 2 ∷ node 0 29 3861249432 3474065722 3474065722 29618665 5 1 2 ∷ []) ++ fill_nodes 0 5 7) (1 ∷ 1 ∷ 991 ∷ 2 ∷ 3034 ∷ 74 ∷ 3034 ∷ 5 ∷ 4294964454 ∷ 0 ∷ 4294954062 ∷ 4294965688 ∷ 3445 ∷ 1 ∷ 0 ∷ 4294967247 ∷ 4294965411 ∷ 2292 ∷ 0 ∷ 1 ∷ 2770 ∷ 2770 ∷ 1 ∷ 4294912943 ∷ [])

abbrev answer_11 : Answer
answer_11 = leaf_at 4 5

-- lookup
abbrev job_12 : Job
job_12 = looking 5 ((node 1 9 4294965911 2 1 0 0 0 0 ∷ node 0 0 0 0 0 0 7 2147483647 1 ∷ node 1 21 4294964969 4 3 0 0 0 1 ∷ node 0 0 0 0 0 0 10 1 2 ∷ node 0 0 0 0 0 0 4294967295 0 2 ∷ []) ++ fill_nodes 0 5 0) (3 ∷ 756 ∷ 4493 ∷ 0 ∷ 4294967129 ∷ 5 ∷ 0 ∷ 5 ∷ 1 ∷ 4294962377 ∷ 204 ∷ 0 ∷ 3 ∷ 0 ∷ 4294964781 ∷ 4294964954 ∷ 2 ∷ 2 ∷ 0 ∷ 3205 ∷ 4294964969 ∷ 4294964969 ∷ 8 ∷ 8 ∷ [])

abbrev answer_12 : Answer
answer_12 = leaf_at 1 7

-- lookup
abbrev job_13 : Job
job_13 = looking 1 ((node 0 0 0 0 0 0 5 4294967289 0 ∷ []) ++ fill_nodes 1510327315 1 0) (6 ∷ 4294552145 ∷ 0 ∷ 4294964508 ∷ 3559 ∷ 3505528140 ∷ 4076 ∷ 4294967291 ∷ 4294965623 ∷ 4712 ∷ 4839 ∷ 4164629 ∷ 8 ∷ 0 ∷ 178 ∷ 8 ∷ 8 ∷ 8 ∷ 2 ∷ 1 ∷ 4294964601 ∷ 4294964601 ∷ 0 ∷ 0 ∷ [])

abbrev answer_13 : Answer
answer_13 = leaf_at 0 5

-- lookup
abbrev job_14 : Job
job_14 = looking 7 ((node 1 7 0 4 2 0 0 0 0 ∷ node 1 17 7 3 4 0 0 0 1 ∷ node 0 0 0 0 0 0 1 0 1 ∷ node 0 0 0 0 0 0 4 2147483648 2 ∷ node 1 16 4294963856 5 6 0 0 0 2 ∷ node 0 0 0 0 0 0 3 0 3 ∷ node 0 0 0 0 0 0 8 0 3 ∷ []) ++ fill_nodes 2423590431 7 1) (3525 ∷ [])

abbrev answer_14 : Answer
answer_14 = no_leaf_at 9 0

-- lookup
abbrev job_15 : Job
job_15 = looking 1 ((node 0 123 1731089881 303917693 2463762861 1789452888 12 0 0 ∷ []) ++ fill_nodes 787603389 1 1) (0 ∷ 0 ∷ 245 ∷ 0 ∷ 2 ∷ 4294964126 ∷ 2 ∷ 4294964126 ∷ 4294966206 ∷ 4294967243 ∷ 0 ∷ 2 ∷ 3 ∷ 0 ∷ 1688 ∷ 5 ∷ 0 ∷ 0 ∷ 0 ∷ 0 ∷ 0 ∷ 4294965816 ∷ 0 ∷ 2 ∷ [])

abbrev answer_15 : Answer
answer_15 = leaf_at 0 12

-- contexts
abbrev job_16 : Job
job_16 = numbering 1 ((node 0 0 0 0 0 0 0 2147483648 0 ∷ []) ++ fill_nodes 4294967295 1 1) (record { contexts = replicate 1 4294967295; queue = replicate 1 4294967295 })

abbrev answer_16 : Answer
answer_16 = contexts_are 0 0 1 (0 ∷ []) (replicate 1 (0))

-- contexts
abbrev job_17 : Job
job_17 = numbering 3 ((node 1 1 4294967293 2 1 3184773595 10 3617981870 0 ∷ node 0 227 2600926644 2533582633 4019918142 3512472335 0 0 1 ∷ node 0 98 3975534690 461312590 2958529103 963037995 12 2147483647 1 ∷ []) ++ fill_nodes 4294967295 3 0) (record { contexts = replicate 3 4294967295; queue = replicate 3 4294967295 })

abbrev answer_17 : Answer
answer_17 = contexts_are 0 0 2 (4294967295 ∷ 1 ∷ 0 ∷ []) (replicate 3 (0))

-- contexts
abbrev job_18 : Job
job_18 = numbering 3 ((node 1 15 6 1 2 0 0 0 0 ∷ node 0 0 0 0 0 0 14 4294967289 1 ∷ node 0 0 0 0 0 0 4 1 1 ∷ []) ++ fill_nodes 501424899 3 2) (record { contexts = replicate 2 501424899; queue = replicate 4 501424899 })

abbrev answer_18 : Answer
answer_18 = contexts_are 8 1 0 (501424899 ∷ 501424899 ∷ []) (replicate 4 (501424899))

-- contexts
abbrev job_19 : Job
job_19 = numbering 5 ((node 1 4 6 1 2 2180189794 17 1567087913 0 ∷ node 1 9 2 3 4 2047804026 16 2295194366 1 ∷ node 0 240 979357545 1085670159 213628063 3894974655 12 2147483647 1 ∷ node 0 220 664851088 3298395898 3298395898 707203130 12 0 2 ∷ node 0 155 1934397215 2783955960 1508099381 623149200 4 1 2 ∷ []) ++ fill_nodes 1 5 7) (record { contexts = replicate 7 1; queue = replicate 7 1 })

abbrev answer_19 : Answer
answer_19 = contexts_are 0 0 3 (4294967295 ∷ 4294967295 ∷ 0 ∷ 1 ∷ 2 ∷ 1 ∷ 1 ∷ []) (replicate 7 (0))

-- contexts
abbrev job_20 : Job
job_20 = numbering 10 ((node 1 22 4 2 1 0 0 0 0 ∷ node 1 3 4294967290 3 4 0 0 0 1 ∷ node 0 0 0 0 0 0 8 1 1 ∷ node 0 0 0 0 0 0 4 0 2 ∷ node 1 1 3 6 5 0 0 0 2 ∷ node 0 0 0 0 0 0 8 0 3 ∷ node 0 0 0 0 0 0 1 0 3 ∷ []) ++ fill_nodes 4294967295 7 2) (record { contexts = replicate 8 4294967295; queue = replicate 7 4294967295 })

abbrev answer_20 : Answer
answer_20 = contexts_are 8 0 0 (run 8 4294967295 0 ([])) (replicate 7 (4294967295))

-- contexts
abbrev job_21 : Job
job_21 = numbering 7 ((node 1 22 4294967291 4 1 0 0 0 0 ∷ node 1 8 0 3 2 0 0 0 1 ∷ node 0 0 0 0 0 0 11 0 2 ∷ node 0 0 0 0 0 0 3 1 2 ∷ node 1 11 4294967291 6 5 0 0 0 1 ∷ node 0 0 0 0 0 0 10 0 2 ∷ node 0 0 0 0 0 0 9 2147483647 2 ∷ []) ++ fill_nodes 2956814955 7 0) (record { contexts = replicate 7 2956814955; queue = replicate 7 2956814955 })

abbrev answer_21 : Answer
answer_21 = contexts_are 0 0 4 (4294967295 ∷ 4294967295 ∷ 3 ∷ 2 ∷ 4294967295 ∷ 1 ∷ 0 ∷ []) (replicate 7 (0))

-- contexts
abbrev job_22 : Job
job_22 = numbering 1 ((node 0 162 1453228865 1001267297 3652121385 2952955121 10 4294967289 0 ∷ []) ++ fill_nodes 2064137397 1 7) (record { contexts = replicate 3 2064137397; queue = replicate 1 2064137397 })

abbrev answer_22 : Answer
answer_22 = contexts_are 0 0 1 (0 ∷ 2064137397 ∷ 2064137397 ∷ []) (replicate 1 (0))

-- contexts
abbrev job_23 : Job
job_23 = numbering 9 ((node 1 1 1 2 1 0 0 0 0 ∷ node 0 0 0 0 0 0 10 0 1 ∷ node 1 5 4294967292 3 4 0 0 0 1 ∷ node 0 0 0 0 0 0 13 2147483647 2 ∷ node 1 0 4294967293 5 6 0 0 0 2 ∷ node 0 0 0 0 0 0 7 2147483648 3 ∷ node 1 14 0 7 8 0 0 0 3 ∷ node 0 0 0 0 0 0 0 0 4 ∷ node 0 0 0 0 0 0 1 1 4 ∷ []) ++ fill_nodes 2216607911 9 2) (record { contexts = replicate 10 2216607911; queue = replicate 8 2216607911 })

abbrev answer_23 : Answer
answer_23 = contexts_are 7 0 0 (run 10 2216607911 0 ([])) (replicate 8 (2216607911))

-- contexts
abbrev job_24 : Job
job_24 = numbering 7 ((node 1 17 4294967295 3 1 4242961178 1 1183021946 0 ∷ node 1 23 0 2 4 1446686517 14 1193708414 1 ∷ node 0 191 2949877080 2614861515 246234306 3654548280 9 4294967289 2 ∷ node 0 37 2110148951 2928614446 3269664278 3706084746 11 0 1 ∷ node 1 22 1 6 5 2204268229 27 4177124629 2 ∷ node 0 149 436013535 3647256733 200191680 3980837184 4 2147483647 3 ∷ node 0 109 2805676519 2225381975 1071981097 1441856990 8 0 3 ∷ []) ++ fill_nodes 4294967295 7 1) (record { contexts = replicate 7 4294967295; queue = replicate 8 4294967295 })

abbrev answer_24 : Answer
answer_24 = contexts_are 0 0 4 (4294967295 ∷ 4294967295 ∷ 1 ∷ 0 ∷ 4294967295 ∷ 3 ∷ 2 ∷ []) (replicate 8 (0))

-- contexts
abbrev job_25 : Job
job_25 = numbering 5 ((node 1 21 4294967289 1 2 3655436753 18 3295367614 0 ∷ node 1 3 4294967287 3 4 3130159028 14 1470039951 1 ∷ node 0 214 3234107123 909171648 741960462 3994465313 11 0 1 ∷ node 0 91 4231680158 1964854282 3277013617 934338283 10 1 2 ∷ node 0 250 2344642947 1407103171 1253634987 1383818212 0 2147483648 2 ∷ []) ++ fill_nodes 2911700283 5 0) (record { contexts = replicate 6 2911700283; queue = replicate 7 2911700283 })

abbrev answer_25 : Answer
answer_25 = contexts_are 0 0 3 (4294967295 ∷ 4294967295 ∷ 0 ∷ 1 ∷ 2 ∷ 2911700283 ∷ []) (replicate 7 (0))

-- contexts
abbrev job_26 : Job
job_26 = numbering 1 ((node 0 0 0 0 0 0 4 4294967289 0 ∷ []) ++ fill_nodes 0 1 2) (record { contexts = replicate 3 0; queue = replicate 1 0 })

abbrev answer_26 : Answer
answer_26 = contexts_are 0 0 1 (0 ∷ 0 ∷ 0 ∷ []) (replicate 1 (0))

-- contexts
abbrev job_27 : Job
job_27 = numbering 7 ((node 1 14 9 2 1 0 0 0 0 ∷ node 1 22 5 4 6 0 0 0 1 ∷ node 1 11 6 3 5 0 0 0 1 ∷ node 0 0 0 0 0 0 6 0 2 ∷ node 0 0 0 0 0 0 1 2147483647 2 ∷ node 0 0 0 0 0 0 10 2147483647 2 ∷ node 0 0 0 0 0 0 8 2147483647 2 ∷ []) ++ fill_nodes 0 7 1) (record { contexts = replicate 7 0; queue = replicate 7 0 })

abbrev answer_27 : Answer
answer_27 = contexts_are 0 0 4 (4294967295 ∷ 4294967295 ∷ 4294967295 ∷ 0 ∷ 2 ∷ 1 ∷ 3 ∷ []) (replicate 7 (0))

-- sampling
abbrev job_28 : Job
job_28 = sampling 39 29 (replicate 29 1)

abbrev answer_28 : Answer
answer_28 = sample_is 0 0 29 (0 ∷ 1 ∷ 2 ∷ 4 ∷ 5 ∷ 6 ∷ 8 ∷ 9 ∷ 10 ∷ 12 ∷ 13 ∷ 14 ∷ 16 ∷ 17 ∷ 18 ∷ 20 ∷ 21 ∷ 22 ∷ 24 ∷ 25 ∷ 26 ∷ 28 ∷ 29 ∷ 30 ∷ 32 ∷ 33 ∷ 34 ∷ 36 ∷ 37 ∷ [])

-- sampling
abbrev job_29 : Job
job_29 = sampling 7 1 (replicate 3 896433363)

abbrev answer_29 : Answer
answer_29 = sample_is 0 0 1 (0 ∷ 896433363 ∷ 896433363 ∷ [])

-- sampling
abbrev job_30 : Job
job_30 = sampling 18446744073709551615 10 (replicate 10 3656872369)

abbrev answer_30 : Answer
answer_30 = sample_is 3 0 0 (run 10 3656872369 0 ([]))

-- sampling
abbrev job_31 : Job
job_31 = sampling 24974 38 (replicate 38 1)

abbrev answer_31 : Answer
answer_31 = sample_is 0 0 38 (0 ∷ 657 ∷ 1314 ∷ 1971 ∷ 2628 ∷ 3286 ∷ 3943 ∷ 4600 ∷ 5257 ∷ 5914 ∷ 6572 ∷ 7229 ∷ 7886 ∷ 8543 ∷ 9200 ∷ 9858 ∷ 10515 ∷ 11172 ∷ 11829 ∷ 12487 ∷ 13144 ∷ 13801 ∷ 14458 ∷ 15115 ∷ 15773 ∷ 16430 ∷ 17087 ∷ 17744 ∷ 18401 ∷ 19059 ∷ 19716 ∷ 20373 ∷ 21030 ∷ 21687 ∷ 22345 ∷ 23002 ∷ 23659 ∷ 24316 ∷ [])

-- sampling
abbrev job_32 : Job
job_32 = sampling 18446744073709551615 25 (replicate 26 497195877)

abbrev answer_32 : Answer
answer_32 = sample_is 3 0 0 (run 26 497195877 0 ([]))

-- sampling
abbrev job_33 : Job
job_33 = sampling 17 13 (replicate 13 1)

abbrev answer_33 : Answer
answer_33 = sample_is 0 0 13 (0 ∷ 1 ∷ 2 ∷ 3 ∷ 5 ∷ 6 ∷ 7 ∷ 9 ∷ 10 ∷ 11 ∷ 13 ∷ 14 ∷ 15 ∷ [])

-- sampling
abbrev job_34 : Job
job_34 = sampling 26 43 (replicate 26 4294967295)

abbrev answer_34 : Answer
answer_34 = sample_is 0 0 26 (run 26 0 1 ([]))

-- sampling
abbrev job_35 : Job
job_35 = sampling 18446744073709551615 0 (replicate 2 1)

abbrev answer_35 : Answer
answer_35 = sample_is 3 0 0 (1 ∷ 1 ∷ [])

-- sampling
abbrev job_36 : Job
job_36 = sampling 29 11786 (replicate 31 1)

abbrev answer_36 : Answer
answer_36 = sample_is 0 0 29 (run 29 0 1 (1 ∷ 1 ∷ []))

-- sampling
abbrev job_37 : Job
job_37 = sampling 11 7 (replicate 7 835665691)

abbrev answer_37 : Answer
answer_37 = sample_is 0 0 7 (0 ∷ 1 ∷ 3 ∷ 4 ∷ 6 ∷ 7 ∷ 9 ∷ [])

-- sampling
abbrev job_38 : Job
job_38 = sampling 12 18446744073709551615 (replicate 19 4294967295)

abbrev answer_38 : Answer
answer_38 = sample_is 0 0 12 (run 12 0 1 (4294967295 ∷ 4294967295 ∷ 4294967295 ∷ 4294967295 ∷ 4294967295 ∷ 4294967295 ∷ 4294967295 ∷ []))

-- sampling
abbrev job_39 : Job
job_39 = sampling 25997 22 (replicate 23 2145103559)

abbrev answer_39 : Answer
answer_39 = sample_is 0 0 22 (0 ∷ 1181 ∷ 2363 ∷ 3545 ∷ 4726 ∷ 5908 ∷ 7090 ∷ 8271 ∷ 9453 ∷ 10635 ∷ 11816 ∷ 12998 ∷ 14180 ∷ 15361 ∷ 16543 ∷ 17725 ∷ 18906 ∷ 20088 ∷ 21270 ∷ 22451 ∷ 23633 ∷ 24815 ∷ 2145103559 ∷ [])

-- sampling
abbrev job_40 : Job
job_40 = sampling 14 18 (replicate 14 3224011561)

abbrev answer_40 : Answer
answer_40 = sample_is 0 0 14 (run 14 0 1 ([]))

-- sampling
abbrev job_41 : Job
job_41 = sampling 39 1 (replicate 8 4294967295)

abbrev answer_41 : Answer
answer_41 = sample_is 0 0 1 (0 ∷ 4294967295 ∷ 4294967295 ∷ 4294967295 ∷ 4294967295 ∷ 4294967295 ∷ 4294967295 ∷ 4294967295 ∷ [])

-- sampling
abbrev job_42 : Job
job_42 = sampling 18446744073709551615 34 (replicate 34 887600127)

abbrev answer_42 : Answer
answer_42 = sample_is 3 0 0 (run 34 887600127 0 ([]))

-- sampling
abbrev job_43 : Job
job_43 = sampling 28 25 (replicate 25 492889507)

abbrev answer_43 : Answer
answer_43 = sample_is 0 0 25 (run 9 0 1 (run 8 10 1 (run 8 19 1 ([]))))

-- sampling
abbrev job_44 : Job
job_44 = sampling 9 0 (replicate 0 1486917527)

abbrev answer_44 : Answer
answer_44 = sample_is 0 0 0 ([])

-- sampling
abbrev job_45 : Job
job_45 = sampling 268494776598736302 2 (replicate 9 1)

abbrev answer_45 : Answer
answer_45 = sample_is 3 0 0 (run 9 1 0 ([]))

-- sampling
abbrev job_46 : Job
job_46 = sampling 2001 6 (replicate 13 4294967295)

abbrev answer_46 : Answer
answer_46 = sample_is 0 0 6 (0 ∷ 333 ∷ 667 ∷ 1000 ∷ 1334 ∷ 1667 ∷ 4294967295 ∷ 4294967295 ∷ 4294967295 ∷ 4294967295 ∷ 4294967295 ∷ 4294967295 ∷ 4294967295 ∷ [])

-- sampling
abbrev job_47 : Job
job_47 = sampling 10 36 (replicate 10 0)

abbrev answer_47 : Answer
answer_47 = sample_is 0 0 10 (run 10 0 1 ([]))

-- sampling
abbrev job_48 : Job
job_48 = sampling 31 65537 (replicate 31 0)

abbrev answer_48 : Answer
answer_48 = sample_is 0 0 31 (run 31 0 1 ([]))

-- sampling
abbrev job_49 : Job
job_49 = sampling 4294967299 22 (replicate 22 2155348307)

abbrev answer_49 : Answer
answer_49 = sample_is 3 0 0 (run 22 2155348307 0 ([]))

-- sampling
abbrev job_50 : Job
job_50 = sampling 39 4294967296 (replicate 39 1)

abbrev answer_50 : Answer
answer_50 = sample_is 0 0 39 (run 39 0 1 ([]))

-- sampling
abbrev job_51 : Job
job_51 = sampling 65537 15 (replicate 15 1)

abbrev answer_51 : Answer
answer_51 = sample_is 3 0 0 (run 15 1 0 ([]))

-- pack
abbrev job_52 : Job
job_52 = packing (2147483647 ∷ 67108863 ∷ [])

abbrev answer_52 : Answer
answer_52 = naturals (4294967294 ∷ 134217726 ∷ [])

-- pack
abbrev job_53 : Job
job_53 = packing (2147483647 ∷ 128 ∷ 32 ∷ 4 ∷ 2834540 ∷ 0 ∷ 54633 ∷ 25 ∷ 37 ∷ 1 ∷ 538086 ∷ 39 ∷ 65536 ∷ 83 ∷ [])

abbrev answer_53 : Answer
answer_53 = naturals (4294967294 ∷ 256 ∷ 64 ∷ 8 ∷ 5669080 ∷ 0 ∷ 109266 ∷ 50 ∷ 74 ∷ 2 ∷ 1076172 ∷ 78 ∷ 131072 ∷ 166 ∷ [])

-- pack
abbrev job_54 : Job
job_54 = packing (2047 ∷ 10 ∷ 14805 ∷ 2147483648 ∷ 8 ∷ 93 ∷ 16777216 ∷ 297 ∷ 28 ∷ 4294967295 ∷ 30 ∷ 15 ∷ 524287 ∷ [])

abbrev answer_54 : Answer
answer_54 = naturals (4094 ∷ 20 ∷ 29610 ∷ 4294967295 ∷ 16 ∷ 186 ∷ 33554432 ∷ 594 ∷ 56 ∷ 1 ∷ 60 ∷ 30 ∷ 1048574 ∷ [])

-- pack
abbrev job_55 : Job
job_55 = packing (536870912 ∷ 18 ∷ 31 ∷ [])

abbrev answer_55 : Answer
answer_55 = naturals (1073741824 ∷ 36 ∷ 62 ∷ [])

-- token
abbrev job_56 : Job
job_56 = encoding (16 ∷ 130853642 ∷ 170 ∷ 2 ∷ 2 ∷ 14686 ∷ 3221225472 ∷ 1 ∷ 2147483646 ∷ 2 ∷ 3221225472 ∷ 0 ∷ 3 ∷ 0 ∷ 5 ∷ 23630607 ∷ 130574 ∷ [])

abbrev answer_56 : Answer
answer_56 = encodings ((16 ∷ 2 ∷ 0 ∷ []) ∷ (107 ∷ 24 ∷ 13413130 ∷ []) ∷ (29 ∷ 5 ∷ 10 ∷ []) ∷ (2 ∷ 0 ∷ 0 ∷ []) ∷ (2 ∷ 0 ∷ 0 ∷ []) ∷ (55 ∷ 11 ∷ 350 ∷ []) ∷ (126 ∷ 29 ∷ 0 ∷ []) ∷ (1 ∷ 0 ∷ 0 ∷ []) ∷ (123 ∷ 28 ∷ 268435454 ∷ []) ∷ (2 ∷ 0 ∷ 0 ∷ []) ∷ (126 ∷ 29 ∷ 0 ∷ []) ∷ (0 ∷ 0 ∷ 0 ∷ []) ∷ (3 ∷ 0 ∷ 0 ∷ []) ∷ (0 ∷ 0 ∷ 0 ∷ []) ∷ (5 ∷ 0 ∷ 0 ∷ []) ∷ (97 ∷ 22 ∷ 2659087 ∷ []) ∷ (67 ∷ 14 ∷ 15886 ∷ []) ∷ [])

-- token
abbrev job_57 : Job
job_57 = encoding ([])

abbrev answer_57 : Answer
answer_57 = encodings ([])

-- token
abbrev job_58 : Job
job_58 = encoding (35 ∷ 31337775 ∷ 3221225472 ∷ 37 ∷ 33554431 ∷ [])

abbrev answer_58 : Answer
answer_58 = encodings ((20 ∷ 3 ∷ 3 ∷ []) ∷ (99 ∷ 22 ∷ 1977647 ∷ []) ∷ (126 ∷ 29 ∷ 0 ∷ []) ∷ (20 ∷ 3 ∷ 5 ∷ []) ∷ (99 ∷ 22 ∷ 4194303 ∷ []) ∷ [])

-- token
abbrev job_59 : Job
job_59 = encoding (15166 ∷ 136 ∷ 3221225472 ∷ 2 ∷ 58058 ∷ [])

abbrev answer_59 : Answer
answer_59 = encodings ((55 ∷ 11 ∷ 830 ∷ []) ∷ (28 ∷ 5 ∷ 8 ∷ []) ∷ (126 ∷ 29 ∷ 0 ∷ []) ∷ (2 ∷ 0 ∷ 0 ∷ []) ∷ (63 ∷ 13 ∷ 714 ∷ []) ∷ [])

-- token
abbrev job_60 : Job
job_60 = encoding (916 ∷ 25 ∷ 0 ∷ 491 ∷ 2147483648 ∷ 2147483647 ∷ 0 ∷ 1073741823 ∷ 2147483648 ∷ 24 ∷ 21 ∷ 2147483647 ∷ 1048576 ∷ 0 ∷ 8192 ∷ 13 ∷ 55902351 ∷ 13 ∷ 32 ∷ [])

abbrev answer_60 : Answer
answer_60 = encodings ((39 ∷ 7 ∷ 20 ∷ []) ∷ (18 ∷ 2 ∷ 1 ∷ []) ∷ (0 ∷ 0 ∷ 0 ∷ []) ∷ (35 ∷ 6 ∷ 43 ∷ []) ∷ (124 ∷ 29 ∷ 0 ∷ []) ∷ (123 ∷ 28 ∷ 268435455 ∷ []) ∷ (0 ∷ 0 ∷ 0 ∷ []) ∷ (119 ∷ 27 ∷ 134217727 ∷ []) ∷ (124 ∷ 29 ∷ 0 ∷ []) ∷ (18 ∷ 2 ∷ 0 ∷ []) ∷ (17 ∷ 2 ∷ 1 ∷ []) ∷ (123 ∷ 28 ∷ 268435455 ∷ []) ∷ (80 ∷ 18 ∷ 0 ∷ []) ∷ (0 ∷ 0 ∷ 0 ∷ []) ∷ (52 ∷ 11 ∷ 0 ∷ []) ∷ (13 ∷ 0 ∷ 0 ∷ []) ∷ (102 ∷ 23 ∷ 5570703 ∷ []) ∷ (13 ∷ 0 ∷ 0 ∷ []) ∷ (20 ∷ 3 ∷ 0 ∷ []) ∷ [])

-- token
abbrev job_61 : Job
job_61 = encoding (33554431 ∷ 28 ∷ 32666 ∷ 1753544651 ∷ 3221225472 ∷ 8314 ∷ 16777216 ∷ 39 ∷ 0 ∷ 6 ∷ 2147483649 ∷ 12 ∷ 64 ∷ 2147483648 ∷ 524287 ∷ 9 ∷ 30413537 ∷ [])

abbrev answer_61 : Answer
answer_61 = encodings ((99 ∷ 22 ∷ 4194303 ∷ []) ∷ (19 ∷ 2 ∷ 0 ∷ []) ∷ (59 ∷ 12 ∷ 3994 ∷ []) ∷ (122 ∷ 28 ∷ 142931915 ∷ []) ∷ (126 ∷ 29 ∷ 0 ∷ []) ∷ (52 ∷ 11 ∷ 122 ∷ []) ∷ (96 ∷ 22 ∷ 0 ∷ []) ∷ (20 ∷ 3 ∷ 7 ∷ []) ∷ (0 ∷ 0 ∷ 0 ∷ []) ∷ (6 ∷ 0 ∷ 0 ∷ []) ∷ (124 ∷ 29 ∷ 1 ∷ []) ∷ (12 ∷ 0 ∷ 0 ∷ []) ∷ (24 ∷ 4 ∷ 0 ∷ []) ∷ (124 ∷ 29 ∷ 0 ∷ []) ∷ (75 ∷ 16 ∷ 65535 ∷ []) ∷ (9 ∷ 0 ∷ 0 ∷ []) ∷ (99 ∷ 22 ∷ 1053409 ∷ []) ∷ [])

-- value
abbrev job_62 : Job
job_62 = reading ([])

abbrev answer_62 : Answer
answer_62 = encodings ([])

-- value
abbrev job_63 : Job
job_63 = reading ((64, 0) ∷ (107, 6506607) ∷ (24, 16) ∷ (1058073, 0) ∷ (123, 268435455) ∷ (106, 16777216) ∷ (127, 182094689) ∷ (39, 0) ∷ (16, 3) ∷ (311879, 0) ∷ (0, 0) ∷ (4294967295, 1) ∷ [])

abbrev answer_63 : Answer
answer_63 = encodings ((0 ∷ 0 ∷ 65536 ∷ []) ∷ (0 ∷ 0 ∷ 123947119 ∷ []) ∷ (10 ∷ 0 ∷ 0 ∷ []) ∷ (10 ∷ 0 ∷ 0 ∷ []) ∷ (0 ∷ 0 ∷ 2147483647 ∷ []) ∷ (10 ∷ 0 ∷ 0 ∷ []) ∷ (0 ∷ 0 ∷ 3940191073 ∷ []) ∷ (0 ∷ 0 ∷ 896 ∷ []) ∷ (0 ∷ 0 ∷ 19 ∷ []) ∷ (10 ∷ 0 ∷ 0 ∷ []) ∷ (0 ∷ 0 ∷ 0 ∷ []) ∷ (10 ∷ 0 ∷ 0 ∷ []) ∷ [])

-- value
abbrev job_64 : Job
job_64 = reading ((71, 29850) ∷ (134217728, 0) ∷ (43, 2) ∷ (18, 0) ∷ (7, 0) ∷ (97, 0) ∷ (48, 0) ∷ (32, 0) ∷ (119, 0) ∷ (94, 0) ∷ (127, 536870911) ∷ (101, 8388607) ∷ (69, 32768) ∷ (8, 0) ∷ [])

abbrev answer_64 : Answer
answer_64 = encodings ((0 ∷ 0 ∷ 259226 ∷ []) ∷ (10 ∷ 0 ∷ 0 ∷ []) ∷ (0 ∷ 0 ∷ 1794 ∷ []) ∷ (0 ∷ 0 ∷ 24 ∷ []) ∷ (0 ∷ 0 ∷ 7 ∷ []) ∷ (0 ∷ 0 ∷ 20971520 ∷ []) ∷ (0 ∷ 0 ∷ 4096 ∷ []) ∷ (0 ∷ 0 ∷ 256 ∷ []) ∷ (0 ∷ 0 ∷ 939524096 ∷ []) ∷ (0 ∷ 0 ∷ 12582912 ∷ []) ∷ (0 ∷ 0 ∷ 4294967295 ∷ []) ∷ (0 ∷ 0 ∷ 50331647 ∷ []) ∷ (10 ∷ 0 ∷ 0 ∷ []) ∷ (0 ∷ 0 ∷ 8 ∷ []) ∷ [])

-- value
abbrev job_65 : Job
job_65 = reading ((65, 0) ∷ (4, 0) ∷ (0, 0) ∷ (111, 33554432) ∷ (74, 15585) ∷ (8, 13) ∷ (117, 0) ∷ (127, 143256693) ∷ (114, 0) ∷ [])

abbrev answer_65 : Answer
answer_65 = encodings ((0 ∷ 0 ∷ 81920 ∷ []) ∷ (0 ∷ 0 ∷ 4 ∷ []) ∷ (0 ∷ 0 ∷ 0 ∷ []) ∷ (10 ∷ 0 ∷ 0 ∷ []) ∷ (0 ∷ 0 ∷ 408801 ∷ []) ∷ (10 ∷ 0 ∷ 0 ∷ []) ∷ (0 ∷ 0 ∷ 671088640 ∷ []) ∷ (0 ∷ 0 ∷ 3901353077 ∷ []) ∷ (0 ∷ 0 ∷ 402653184 ∷ []) ∷ [])

-- value
abbrev job_66 : Job
job_66 = reading ((5, 31) ∷ (121, 225113128) ∷ (21, 7) ∷ (117, 134217728) ∷ [])

abbrev answer_66 : Answer
answer_66 = encodings ((10 ∷ 0 ∷ 0 ∷ []) ∷ (0 ∷ 0 ∷ 1567290408 ∷ []) ∷ (0 ∷ 0 ∷ 47 ∷ []) ∷ (10 ∷ 0 ∷ 0 ∷ []) ∷ [])

-- value
abbrev job_67 : Job
job_67 = reading ((68, 32768) ∷ (85, 524287) ∷ (126, 174991388) ∷ [])

abbrev answer_67 : Answer
answer_67 = encodings ((10 ∷ 0 ∷ 0 ∷ []) ∷ (0 ∷ 0 ∷ 3145727 ∷ []) ∷ (0 ∷ 0 ∷ 3396216860 ∷ []) ∷ [])

-- value
abbrev job_68 : Job
job_68 = reading ((24, 0) ∷ (58, 4095) ∷ (81, 262143) ∷ (60, 0) ∷ (29, 23) ∷ (78, 131071) ∷ [])

abbrev answer_68 : Answer
answer_68 = encodings ((0 ∷ 0 ∷ 64 ∷ []) ∷ (0 ∷ 0 ∷ 28671 ∷ []) ∷ (0 ∷ 0 ∷ 1572863 ∷ []) ∷ (0 ∷ 0 ∷ 32768 ∷ []) ∷ (0 ∷ 0 ∷ 183 ∷ []) ∷ (0 ∷ 0 ∷ 917503 ∷ []) ∷ [])

-- value
abbrev job_69 : Job
job_69 = reading ((78, 0) ∷ (15, 1) ∷ (128, 0) ∷ (147274, 0) ∷ (32, 4101927158) ∷ (41, 0) ∷ (42, 255) ∷ (63, 8192) ∷ (58, 0) ∷ (9, 0) ∷ [])

abbrev answer_69 : Answer
answer_69 = encodings ((0 ∷ 0 ∷ 786432 ∷ []) ∷ (10 ∷ 0 ∷ 0 ∷ []) ∷ (10 ∷ 0 ∷ 0 ∷ []) ∷ (10 ∷ 0 ∷ 0 ∷ []) ∷ (10 ∷ 0 ∷ 0 ∷ []) ∷ (0 ∷ 0 ∷ 1280 ∷ []) ∷ (0 ∷ 0 ∷ 1791 ∷ []) ∷ (10 ∷ 0 ∷ 0 ∷ []) ∷ (0 ∷ 0 ∷ 24576 ∷ []) ∷ (0 ∷ 0 ∷ 9 ∷ []) ∷ [])

-- mode
abbrev job_70 : Job
job_70 = mode_step (776318 ∷ 2440 ∷ 4294967293 ∷ 776318 ∷ 1048572 ∷ [])

abbrev answer_70 : Answer
answer_70 = rebased_to (word 0) (81 ∷ 48 ∷ 5 ∷ 81 ∷ 83 ∷ [])

-- mode
abbrev job_71 : Job
job_71 = mode_step ([])

abbrev answer_71 : Answer
answer_71 = rebased_to (word 0) ([])

-- mode
abbrev job_72 : Job
job_72 = mode_step (0 ∷ 4294965395 ∷ 4294965296 ∷ 4294965309 ∷ 4294965395 ∷ 4294965309 ∷ 4294965358 ∷ 4294965395 ∷ [])

abbrev answer_72 : Answer
answer_72 = rebased_to (word 4294965395) (47 ∷ 0 ∷ 30 ∷ 29 ∷ 0 ∷ 29 ∷ 24 ∷ 0 ∷ [])

-- mode
abbrev job_73 : Job
job_73 = mode_step ([])

abbrev answer_73 : Answer
answer_73 = rebased_to (word 0) ([])

-- mode
abbrev job_74 : Job
job_74 = mode_step (4294967293 ∷ 35 ∷ 96 ∷ 32 ∷ 32 ∷ 45 ∷ 35 ∷ 35 ∷ 45 ∷ [])

abbrev answer_74 : Answer
answer_74 = rebased_to (word 35) (24 ∷ 0 ∷ 27 ∷ 5 ∷ 5 ∷ 17 ∷ 0 ∷ 0 ∷ 17 ∷ [])

-- mode
abbrev job_75 : Job
job_75 = mode_step (725 ∷ 1140 ∷ 4091 ∷ 4294967293 ∷ [])

abbrev answer_75 : Answer
answer_75 = rebased_to (word 4294967293) (41 ∷ 44 ∷ 51 ∷ 0 ∷ [])

-- mode
abbrev job_76 : Job
job_76 = mode_step (2147483650 ∷ 2147483650 ∷ 2147483650 ∷ 2147483650 ∷ 2147483648 ∷ 2147483652 ∷ 2147483648 ∷ 2147483650 ∷ [])

abbrev answer_76 : Answer
answer_76 = rebased_to (word 2147483650) (0 ∷ 0 ∷ 0 ∷ 0 ∷ 3 ∷ 4 ∷ 3 ∷ 0 ∷ [])

-- mode
abbrev job_77 : Job
job_77 = mode_step (2147483647 ∷ [])

abbrev answer_77 : Answer
answer_77 = rebased_to (word 2147483647) (0 ∷ [])

-- mode
abbrev job_78 : Job
job_78 = mode_step (77 ∷ 3339 ∷ 3221225472 ∷ 4171 ∷ [])

abbrev answer_78 : Answer
answer_78 = rebased_to (word 0) (28 ∷ 50 ∷ 123 ∷ 52 ∷ [])

-- mode
abbrev job_79 : Job
job_79 = mode_step (4294967293 ∷ 96 ∷ [])

abbrev answer_79 : Answer
answer_79 = rebased_to (word 4294967293) (0 ∷ 30 ∷ [])

-- mode
abbrev job_80 : Job
job_80 = mode_step (1048572 ∷ 4294967293 ∷ 429797 ∷ [])

abbrev answer_80 : Answer
answer_80 = rebased_to (word 0) (83 ∷ 5 ∷ 78 ∷ [])

-- mode
abbrev job_81 : Job
job_81 = mode_step (4294965296 ∷ 4294965296 ∷ 4294965296 ∷ 4294965296 ∷ 4294965296 ∷ 4294965296 ∷ 4294965297 ∷ 4294965296 ∷ 4294965296 ∷ [])

abbrev answer_81 : Answer
answer_81 = rebased_to (word 4294965296) (0 ∷ 0 ∷ 0 ∷ 0 ∷ 0 ∷ 0 ∷ 2 ∷ 0 ∷ 0 ∷ [])

-- mode
abbrev job_82 : Job
job_82 = mode_step (79 ∷ 79 ∷ 81 ∷ 77 ∷ [])

abbrev answer_82 : Answer
answer_82 = rebased_to (word 79) (0 ∷ 0 ∷ 4 ∷ 3 ∷ [])

-- mode
abbrev job_83 : Job
job_83 = mode_step (2147479552 ∷ 2147479751 ∷ 2147479751 ∷ 2147483647 ∷ 2147479751 ∷ 2147480876 ∷ 2147480272 ∷ 2147480272 ∷ [])

abbrev answer_83 : Answer
answer_83 = rebased_to (word 2147479751) (34 ∷ 0 ∷ 0 ∷ 51 ∷ 0 ∷ 44 ∷ 40 ∷ 40 ∷ [])

-- mode
abbrev job_84 : Job
job_84 = mode_step (0 ∷ 4096 ∷ 1366 ∷ [])

abbrev answer_84 : Answer
answer_84 = rebased_to (word 0) (0 ∷ 52 ∷ 45 ∷ [])

-- mode
abbrev job_85 : Job
job_85 = mode_step (2147483647 ∷ [])

abbrev answer_85 : Answer
answer_85 = rebased_to (word 2147483647) (0 ∷ [])

-- candidates
abbrev job_86 : Job
job_86 = thresholds ([]) 33

abbrev answer_86 : Answer
answer_86 = integers (words ([]))

-- candidates
abbrev job_87 : Job
job_87 = thresholds (10 ∷ 3221225472 ∷ 33554432 ∷ 32 ∷ 146645731 ∷ []) 31

abbrev answer_87 : Answer
answer_87 = integers (words (3221225472 ∷ 10 ∷ 32 ∷ 33554432 ∷ []))

-- candidates
abbrev job_88 : Job
job_88 = thresholds (4294967291 ∷ 4294967292 ∷ []) 33

abbrev answer_88 : Answer
answer_88 = integers (words (4294967291 ∷ []))

-- candidates
abbrev job_89 : Job
job_89 = thresholds (2245 ∷ 2992 ∷ 1569 ∷ []) 5

abbrev answer_89 : Answer
answer_89 = integers (words (1569 ∷ 2245 ∷ []))

-- candidates
abbrev job_90 : Job
job_90 = thresholds (2147484344 ∷ 2147486272 ∷ 2147485863 ∷ []) 32

abbrev answer_90 : Answer
answer_90 = integers (words (2147484344 ∷ 2147485863 ∷ []))

-- candidates
abbrev job_91 : Job
job_91 = thresholds (4294967291 ∷ 4294967292 ∷ 4294967293 ∷ 4294967294 ∷ []) 32

abbrev answer_91 : Answer
answer_91 = integers (words (4294967291 ∷ 4294967292 ∷ 4294967293 ∷ []))

-- candidates
abbrev job_92 : Job
job_92 = thresholds (2147483958 ∷ 2147485138 ∷ 2147486330 ∷ 2147484410 ∷ 2147484924 ∷ 2147487337 ∷ []) 32

abbrev answer_92 : Answer
answer_92 = integers (words (2147483958 ∷ 2147484410 ∷ 2147484924 ∷ 2147485138 ∷ 2147486330 ∷ []))

-- candidates
abbrev job_93 : Job
job_93 = thresholds (25 ∷ 12 ∷ 13 ∷ []) 32

abbrev answer_93 : Answer
answer_93 = integers (words (12 ∷ 13 ∷ []))

-- candidates
abbrev job_94 : Job
job_94 = thresholds (1029 ∷ []) 3

abbrev answer_94 : Answer
answer_94 = integers (words ([]))

-- candidates
abbrev job_95 : Job
job_95 = thresholds (3 ∷ 1 ∷ 0 ∷ 2 ∷ 1 ∷ 3 ∷ 0 ∷ 2 ∷ []) 0

abbrev answer_95 : Answer
answer_95 = integers (words ([]))

-- candidates
abbrev job_96 : Job
job_96 = thresholds (4294967291 ∷ 4294967292 ∷ 4294967293 ∷ []) 5

abbrev answer_96 : Answer
answer_96 = integers (words (4294967291 ∷ 4294967292 ∷ []))

-- candidates
abbrev job_97 : Job
job_97 = thresholds (4294967226 ∷ []) 31

abbrev answer_97 : Answer
answer_97 = integers (words ([]))

-- candidates
abbrev job_98 : Job
job_98 = thresholds (2147479569 ∷ []) 3

abbrev answer_98 : Answer
answer_98 = integers (words ([]))

-- candidates
abbrev job_99 : Job
job_99 = thresholds (131071 ∷ 2147483647 ∷ []) 3

abbrev answer_99 : Answer
answer_99 = integers (words (131071 ∷ []))

-- partition
abbrev job_100 : Job
job_100 = parting (7 ∷ 4294967293 ∷ 4294967289 ∷ 1 ∷ 3 ∷ 1 ∷ 9 ∷ 8 ∷ 4294967288 ∷ 4 ∷ 4294967295 ∷ 4294967287 ∷ []) 2

abbrev answer_100 : Answer
answer_100 = parted 5 (words (7 ∷ 4 ∷ 8 ∷ 9 ∷ 3 ∷ 1 ∷ 1 ∷ 4294967288 ∷ 4294967289 ∷ 4294967295 ∷ 4294967287 ∷ 4294967293 ∷ []))

-- partition
abbrev job_101 : Job
job_101 = parting ([]) 2147483648

abbrev answer_101 : Answer
answer_101 = parted 0 (words ([]))

-- partition
abbrev job_102 : Job
job_102 = parting (5 ∷ 4294967290 ∷ 7 ∷ 1 ∷ 4294967295 ∷ 7 ∷ 4294967291 ∷ []) 4294967291

abbrev answer_102 : Answer
answer_102 = parted 5 (words (5 ∷ 7 ∷ 7 ∷ 1 ∷ 4294967295 ∷ 4294967291 ∷ 4294967290 ∷ []))

-- partition
abbrev job_103 : Job
job_103 = parting (0 ∷ 5 ∷ 0 ∷ 7 ∷ 7 ∷ 4294967292 ∷ []) 3

abbrev answer_103 : Answer
answer_103 = parted 3 (words (7 ∷ 5 ∷ 7 ∷ 0 ∷ 4294967292 ∷ 0 ∷ []))

-- partition
abbrev job_104 : Job
job_104 = parting (1 ∷ 2147483649 ∷ 2147483646 ∷ 1073741823 ∷ 2147483646 ∷ 1 ∷ 2147483647 ∷ 4294967295 ∷ 1 ∷ 3221225472 ∷ 3221225472 ∷ 1 ∷ 1073741823 ∷ []) 3221225472

abbrev answer_104 : Answer
answer_104 = parted 10 (words (1 ∷ 1073741823 ∷ 2147483646 ∷ 1073741823 ∷ 2147483646 ∷ 1 ∷ 2147483647 ∷ 4294967295 ∷ 1 ∷ 1 ∷ 3221225472 ∷ 3221225472 ∷ 2147483649 ∷ []))

-- partition
abbrev job_105 : Job
job_105 = parting (8 ∷ 2 ∷ 4294967292 ∷ 4294967290 ∷ 8 ∷ 4294967292 ∷ 4294967293 ∷ []) 4294967289

abbrev answer_105 : Answer
answer_105 = parted 7 (words (8 ∷ 2 ∷ 4294967292 ∷ 4294967290 ∷ 8 ∷ 4294967292 ∷ 4294967293 ∷ []))

-- partition
abbrev job_106 : Job
job_106 = parting (1 ∷ 2 ∷ []) 7

abbrev answer_106 : Answer
answer_106 = parted 0 (words (2 ∷ 1 ∷ []))

-- partition
abbrev job_107 : Job
job_107 = parting (3221225472 ∷ 3221225472 ∷ 2147483648 ∷ 1073741823 ∷ 2147483646 ∷ 2147483646 ∷ []) 3221225472

abbrev answer_107 : Answer
answer_107 = parted 3 (words (2147483646 ∷ 2147483646 ∷ 1073741823 ∷ 2147483648 ∷ 3221225472 ∷ 3221225472 ∷ []))

-- partition
abbrev job_108 : Job
job_108 = parting (4294967294 ∷ 4 ∷ 4 ∷ 7 ∷ 8 ∷ 4294967290 ∷ 4294967287 ∷ 2 ∷ []) 1

abbrev answer_108 : Answer
answer_108 = parted 5 (words (2 ∷ 4 ∷ 4 ∷ 7 ∷ 8 ∷ 4294967287 ∷ 4294967290 ∷ 4294967294 ∷ []))

-- partition
abbrev job_109 : Job
job_109 = parting (4294967295 ∷ 2147483646 ∷ 0 ∷ 2147483647 ∷ 1 ∷ 2147483646 ∷ 1 ∷ 2147483649 ∷ 3221225472 ∷ 2147483647 ∷ 2147483649 ∷ 0 ∷ []) 2147483649

abbrev answer_109 : Answer
answer_109 = parted 10 (words (4294967295 ∷ 2147483646 ∷ 0 ∷ 2147483647 ∷ 1 ∷ 2147483646 ∷ 1 ∷ 0 ∷ 3221225472 ∷ 2147483647 ∷ 2147483649 ∷ 2147483649 ∷ []))

-- prune
abbrev job_110 : Job
job_110 = pruning 754974720 (node 1 3 7 1 2 754974720 0 0 0 ∷ node 1 4 7 3 4 2139095040 0 0 1 ∷ node 0 0 0 0 0 3347054592 1 0 1 ∷ node 0 0 0 0 0 1199570944 2 0 2 ∷ node 0 0 0 0 0 754974720 3 0 2 ∷ []) (span 1433654814 1433654815 ∷ span 1433654815 1433654816 ∷ span 1433654816 1433654817 ∷ span 1433654817 1433654818 ∷ span 1433654818 1433654819 ∷ [])

abbrev answer_110 : Answer
answer_110 = pruned_to (f64 4440549232587309056) 1 (node 0 0 0 0 0 754974720 0 0 0 ∷ node 0 0 0 0 0 0 0 0 0 ∷ node 0 0 0 0 0 0 0 0 0 ∷ node 0 0 0 0 0 0 0 0 0 ∷ node 0 0 0 0 0 0 0 0 0 ∷ []) (span 1433654814 1433654815 ∷ span 0 0 ∷ span 0 0 ∷ span 0 0 ∷ span 0 0 ∷ [])

-- prune
abbrev job_111 : Job
job_111 = pruning 1077936128 (node 1 7 4294967287 1 9 1138425856 3 2 0 ∷ node 1 2 4294967287 2 6 1136480256 3 5 1 ∷ node 1 2 6 3 4 2139095040 13 4294967291 2 ∷ node 0 0 0 0 0 1097203712 10 2147483648 3 ∷ node 1 12 4294967288 8 5 1133858816 12 4294967295 3 ∷ node 1 5 3 7 12 1128374272 2 0 4 ∷ node 1 11 4294967287 11 10 2139095040 6 9 2 ∷ node 0 0 0 0 0 1119289344 1 2147483647 5 ∷ node 0 0 0 0 0 1101856768 11 4294967289 4 ∷ node 0 0 0 0 0 1113718784 5 4294967289 1 ∷ node 0 0 0 0 0 1113423872 5 0 3 ∷ node 0 0 0 0 0 1118011392 12 0 3 ∷ node 1 6 4294967289 13 14 1120288768 7 4294967293 5 ∷ node 0 0 0 0 0 1119174656 5 0 6 ∷ node 0 0 0 0 0 1085276160 3 4294967289 6 ∷ []) (span 0 3652947134 ∷ span 1 1222505231 ∷ span 2 2645301640 ∷ span 3 3682130730 ∷ span 4 417187768 ∷ span 5 2815570603 ∷ span 6 1635294759 ∷ span 7 3563341686 ∷ span 8 3611999164 ∷ span 9 3928169514 ∷ span 10 1584185872 ∷ span 11 1232574508 ∷ span 12 1240765535 ∷ span 13 567368669 ∷ span 14 3171042617 ∷ [])

abbrev answer_111 : Answer
answer_111 = pruned_to (f64 4646412993679065088) 1 (node 0 0 0 0 0 1138425856 3 2 0 ∷ node 0 0 0 0 0 0 0 0 0 ∷ node 0 0 0 0 0 0 0 0 0 ∷ node 0 0 0 0 0 0 0 0 0 ∷ node 0 0 0 0 0 0 0 0 0 ∷ node 0 0 0 0 0 0 0 0 0 ∷ node 0 0 0 0 0 0 0 0 0 ∷ node 0 0 0 0 0 0 0 0 0 ∷ node 0 0 0 0 0 0 0 0 0 ∷ node 0 0 0 0 0 0 0 0 0 ∷ node 0 0 0 0 0 0 0 0 0 ∷ node 0 0 0 0 0 0 0 0 0 ∷ node 0 0 0 0 0 0 0 0 0 ∷ node 0 0 0 0 0 0 0 0 0 ∷ node 0 0 0 0 0 0 0 0 0 ∷ []) (span 0 3652947134 ∷ span 0 0 ∷ span 0 0 ∷ span 0 0 ∷ span 0 0 ∷ span 0 0 ∷ span 0 0 ∷ span 0 0 ∷ span 0 0 ∷ span 0 0 ∷ span 0 0 ∷ span 0 0 ∷ span 0 0 ∷ span 0 0 ∷ span 0 0 ∷ [])

-- prune
abbrev job_112 : Job
job_112 = pruning 1065353216 (node 1 17 9 2 1 1119715328 8 4294967291 0 ∷ node 1 6 4294967292 11 12 1125793792 11 3 1 ∷ node 1 8 4294967289 8 3 1133895680 2 4294967295 1 ∷ node 1 21 1 7 4 1122156544 7 3 2 ∷ node 1 12 9 5 6 1118322688 2 4294967293 3 ∷ node 0 0 0 0 0 1110802432 1 4294967289 4 ∷ node 1 3 4294967288 10 9 2139095040 2 3 4 ∷ node 0 0 0 0 0 1105264640 6 0 3 ∷ node 0 0 0 0 0 1108967424 10 1 2 ∷ node 0 0 0 0 0 1086849024 5 1 5 ∷ node 0 0 0 0 0 1106509824 2 1 5 ∷ node 1 11 0 14 13 1116717056 12 7 2 ∷ node 0 0 0 0 0 1117995008 10 2147483647 2 ∷ node 0 0 0 0 0 1109917696 13 0 3 ∷ node 0 0 0 0 0 1105592320 4 1 3 ∷ []) (span 0 1848197652 ∷ span 1 1164718150 ∷ span 2 4082717329 ∷ span 3 2676876102 ∷ span 4 415092879 ∷ span 5 993779678 ∷ span 6 609344044 ∷ span 7 1924936726 ∷ span 8 373472401 ∷ span 9 782891603 ∷ span 10 2789817108 ∷ span 11 1118038794 ∷ span 12 1203601438 ∷ span 13 1646115983 ∷ span 14 1377266322 ∷ [])

abbrev answer_112 : Answer
answer_112 = pruned_to (f64 4636367855447703552) 1 (node 0 0 0 0 0 1119715328 8 4294967291 0 ∷ node 0 0 0 0 0 0 0 0 0 ∷ node 0 0 0 0 0 0 0 0 0 ∷ node 0 0 0 0 0 0 0 0 0 ∷ node 0 0 0 0 0 0 0 0 0 ∷ node 0 0 0 0 0 0 0 0 0 ∷ node 0 0 0 0 0 0 0 0 0 ∷ node 0 0 0 0 0 0 0 0 0 ∷ node 0 0 0 0 0 0 0 0 0 ∷ node 0 0 0 0 0 0 0 0 0 ∷ node 0 0 0 0 0 0 0 0 0 ∷ node 0 0 0 0 0 0 0 0 0 ∷ node 0 0 0 0 0 0 0 0 0 ∷ node 0 0 0 0 0 0 0 0 0 ∷ node 0 0 0 0 0 0 0 0 0 ∷ []) (span 0 1848197652 ∷ span 0 0 ∷ span 0 0 ∷ span 0 0 ∷ span 0 0 ∷ span 0 0 ∷ span 0 0 ∷ span 0 0 ∷ span 0 0 ∷ span 0 0 ∷ span 0 0 ∷ span 0 0 ∷ span 0 0 ∷ span 0 0 ∷ span 0 0 ∷ [])

-- prune
abbrev job_113 : Job
job_113 = pruning 713031680 (node 1 3 7 1 2 725614592 0 0 0 ∷ node 1 4 7 3 4 2139095040 0 0 1 ∷ node 0 0 0 0 0 3305111552 1 0 1 ∷ node 0 0 0 0 0 713031680 3 0 2 ∷ node 0 0 0 0 0 1157627904 2 0 2 ∷ []) (span 3874279322 3874279323 ∷ span 3874279323 3874279324 ∷ span 3874279324 3874279325 ∷ span 3874279325 3874279326 ∷ span 3874279326 3874279327 ∷ [])

abbrev answer_113 : Answer
answer_113 = pruned_to (f64 0) 5 (node 1 3 7 1 4 725614592 0 0 0 ∷ node 1 4 7 2 3 2139095040 0 0 1 ∷ node 0 0 0 0 0 713031680 3 0 2 ∷ node 0 0 0 0 0 1157627904 2 0 2 ∷ node 0 0 0 0 0 3305111552 1 0 1 ∷ []) (span 3874279322 3874279323 ∷ span 3874279323 3874279324 ∷ span 3874279325 3874279326 ∷ span 3874279326 3874279327 ∷ span 3874279324 3874279325 ∷ [])

-- prune
abbrev job_114 : Job
job_114 = pruning 1077936128 (node 1 22 4294967293 9 1 1133948928 11 4294967290 0 ∷ node 1 22 6 5 2 1131708416 5 3 1 ∷ node 1 11 6 3 4 1130004480 1 4294967291 2 ∷ node 0 0 0 0 0 3239837696 8 1 3 ∷ node 1 1 1 6 7 1130446848 12 9 3 ∷ node 0 0 0 0 0 1102512128 2 0 2 ∷ node 1 18 9 8 10 1121009664 8 5 4 ∷ node 1 22 3 14 11 2139095040 3 5 4 ∷ node 0 0 0 0 0 1109295104 1 4294967289 5 ∷ node 0 0 0 0 0 1113096192 12 4294967289 1 ∷ node 1 16 4294967294 13 12 1115160576 10 4294967292 5 ∷ node 0 0 0 0 0 1106509824 4 0 5 ∷ node 0 0 0 0 0 1111982080 12 2147483648 6 ∷ node 0 0 0 0 0 1091698688 0 2147483647 6 ∷ node 0 0 0 0 0 1118322688 12 0 5 ∷ []) (span 0 667139974 ∷ span 1 3274661708 ∷ span 2 3890159496 ∷ span 3 4090533307 ∷ span 4 1907121698 ∷ span 5 1723142677 ∷ span 6 1348467162 ∷ span 7 985026745 ∷ span 8 3355247680 ∷ span 9 29576122 ∷ span 10 439166320 ∷ span 11 59181386 ∷ span 12 4054128360 ∷ span 13 3339049134 ∷ span 14 1818550752 ∷ [])

abbrev answer_114 : Answer
answer_114 = pruned_to (f64 4644009461260746752) 1 (node 0 0 0 0 0 1133948928 11 4294967290 0 ∷ node 0 0 0 0 0 0 0 0 0 ∷ node 0 0 0 0 0 0 0 0 0 ∷ node 0 0 0 0 0 0 0 0 0 ∷ node 0 0 0 0 0 0 0 0 0 ∷ node 0 0 0 0 0 0 0 0 0 ∷ node 0 0 0 0 0 0 0 0 0 ∷ node 0 0 0 0 0 0 0 0 0 ∷ node 0 0 0 0 0 0 0 0 0 ∷ node 0 0 0 0 0 0 0 0 0 ∷ node 0 0 0 0 0 0 0 0 0 ∷ node 0 0 0 0 0 0 0 0 0 ∷ node 0 0 0 0 0 0 0 0 0 ∷ node 0 0 0 0 0 0 0 0 0 ∷ node 0 0 0 0 0 0 0 0 0 ∷ []) (span 0 667139974 ∷ span 0 0 ∷ span 0 0 ∷ span 0 0 ∷ span 0 0 ∷ span 0 0 ∷ span 0 0 ∷ span 0 0 ∷ span 0 0 ∷ span 0 0 ∷ span 0 0 ∷ span 0 0 ∷ span 0 0 ∷ span 0 0 ∷ span 0 0 ∷ [])

-- prune
abbrev job_115 : Job
job_115 = pruning 679477248 (node 1 3 7 1 2 696254464 0 0 0 ∷ node 1 4 7 3 4 2139095040 0 0 1 ∷ node 0 0 0 0 0 3271557120 1 0 1 ∷ node 0 0 0 0 0 1124073472 2 0 2 ∷ node 0 0 0 0 0 679477248 3 0 2 ∷ []) (span 3871792239 3871792240 ∷ span 3871792240 3871792241 ∷ span 3871792241 3871792242 ∷ span 3871792242 3871792243 ∷ span 3871792243 3871792244 ∷ [])

abbrev answer_115 : Answer
answer_115 = pruned_to (f64 0) 5 (node 1 3 7 1 4 696254464 0 0 0 ∷ node 1 4 7 2 3 2139095040 0 0 1 ∷ node 0 0 0 0 0 1124073472 2 0 2 ∷ node 0 0 0 0 0 679477248 3 0 2 ∷ node 0 0 0 0 0 3271557120 1 0 1 ∷ []) (span 3871792239 3871792240 ∷ span 3871792240 3871792241 ∷ span 3871792242 3871792243 ∷ span 3871792243 3871792244 ∷ span 3871792241 3871792242 ∷ [])

-- score
abbrev job_116 : Job
job_116 = scoring 5 (1 ∷ 0 ∷ []) (run 14 0 0 (run 14 4 0 ([]))) (4 ∷ 6 ∷ 3 ∷ 10 ∷ []) (1 ∷ []) (2143289344 ∷ 0 ∷ 1065353216 ∷ [])

abbrev answer_116 : Answer
answer_116 = none_scored

-- score
abbrev job_117 : Job
job_117 = scoring 255 (4294967199 ∷ 4294967025 ∷ 83 ∷ 153 ∷ 4294967221 ∷ []) (253 ∷ 105 ∷ 163 ∷ 106 ∷ 57 ∷ 173 ∷ 47 ∷ 241 ∷ 185 ∷ 208 ∷ 49 ∷ 154 ∷ 148 ∷ 250 ∷ 253 ∷ 105 ∷ 163 ∷ 106 ∷ 57 ∷ 173 ∷ 47 ∷ 241 ∷ 185 ∷ 208 ∷ 49 ∷ 154 ∷ 148 ∷ 250 ∷ 253 ∷ 105 ∷ 163 ∷ 106 ∷ 57 ∷ 173 ∷ 47 ∷ 241 ∷ 185 ∷ 208 ∷ 49 ∷ 154 ∷ 148 ∷ 250 ∷ 253 ∷ 105 ∷ 163 ∷ 106 ∷ 57 ∷ 173 ∷ 47 ∷ 241 ∷ 185 ∷ 208 ∷ 49 ∷ 154 ∷ 148 ∷ 250 ∷ 253 ∷ 105 ∷ 163 ∷ 106 ∷ 57 ∷ 173 ∷ 47 ∷ 241 ∷ 185 ∷ 208 ∷ 49 ∷ 154 ∷ 148 ∷ 250 ∷ []) (4 ∷ []) (4294967024 ∷ 2147483646 ∷ []) (1120272384 ∷ 1104500053 ∷ 1101703850 ∷ 1098907648 ∷ 1093315242 ∷ 1084926636 ∷ [])

abbrev answer_117 : Answer
answer_117 = none_scored

-- score
abbrev job_118 : Job
job_118 = scoring 17 (272405254 ∷ 3270728122 ∷ 421853567 ∷ 4011324312 ∷ 812193810 ∷ 4223471449 ∷ []) (16 ∷ 6 ∷ 16 ∷ 15 ∷ 14 ∷ 6 ∷ 8 ∷ 4 ∷ 3 ∷ 8 ∷ 14 ∷ 14 ∷ 10 ∷ 14 ∷ 1 ∷ 12 ∷ 15 ∷ 0 ∷ 5 ∷ 1 ∷ 0 ∷ 13 ∷ 16 ∷ 0 ∷ 13 ∷ 2 ∷ 4 ∷ 2 ∷ 16 ∷ 6 ∷ 16 ∷ 15 ∷ 14 ∷ 6 ∷ 8 ∷ 4 ∷ 3 ∷ 8 ∷ 14 ∷ 14 ∷ 10 ∷ 14 ∷ 1 ∷ 12 ∷ 15 ∷ 0 ∷ 5 ∷ 1 ∷ 0 ∷ 13 ∷ 16 ∷ 0 ∷ 13 ∷ 2 ∷ 4 ∷ 2 ∷ 16 ∷ 6 ∷ 16 ∷ 15 ∷ 14 ∷ 6 ∷ 8 ∷ 4 ∷ 3 ∷ 8 ∷ 14 ∷ 14 ∷ 10 ∷ 14 ∷ 16 ∷ 6 ∷ 16 ∷ 15 ∷ 14 ∷ 6 ∷ 8 ∷ 4 ∷ 3 ∷ 8 ∷ 14 ∷ 14 ∷ 10 ∷ 14 ∷ []) (12 ∷ 9 ∷ 7 ∷ []) (3270728122 ∷ 3270728124 ∷ 4011324311 ∷ 4011324312 ∷ 4011324314 ∷ 4223471448 ∷ 4223471449 ∷ 4223471451 ∷ 272405252 ∷ 272405253 ∷ 272405254 ∷ 272405255 ∷ 272405256 ∷ 421853567 ∷ 421853568 ∷ 421853569 ∷ 812193808 ∷ 812193810 ∷ 812193812 ∷ []) (0 ∷ 0 ∷ 1065353216 ∷ 1070260237 ∷ 1073741824 ∷ 1075092088 ∷ 1076195335 ∷ [])

abbrev answer_118 : Answer
answer_118 = best_at 4011324312 0 2

-- score
abbrev job_119 : Job
job_119 = scoring 16 (3435259615 ∷ 4207515939 ∷ []) (13 ∷ 15 ∷ 11 ∷ 5 ∷ 8 ∷ 1 ∷ 6 ∷ 7 ∷ 14 ∷ 5 ∷ 11 ∷ 12 ∷ 15 ∷ 4 ∷ 9 ∷ 0 ∷ 11 ∷ 13 ∷ 2 ∷ 1 ∷ 7 ∷ 7 ∷ 14 ∷ 5 ∷ 11 ∷ 12 ∷ 15 ∷ 4 ∷ []) (4 ∷ 0 ∷ 10 ∷ 2 ∷ []) (4207515939 ∷ []) (4286578688 ∷ 1104838780 ∷ 1086146572 ∷ [])

abbrev answer_119 : Answer
answer_119 = none_scored

-- score
abbrev job_120 : Job
job_120 = scoring 40 (0 ∷ 1 ∷ 0 ∷ 0 ∷ 1 ∷ 1 ∷ 0 ∷ 0 ∷ 0 ∷ []) (21 ∷ 27 ∷ 22 ∷ 34 ∷ 32 ∷ 32 ∷ 18 ∷ 10 ∷ 26 ∷ 35 ∷ 1 ∷ 23 ∷ 4 ∷ 28 ∷ 36 ∷ 24 ∷ 33 ∷ 5 ∷ 5 ∷ 17 ∷ 26 ∷ 9 ∷ 26 ∷ 10 ∷ 6 ∷ 1 ∷ 24 ∷ 38 ∷ 21 ∷ 27 ∷ 22 ∷ 34 ∷ 32 ∷ 32 ∷ 18 ∷ 10 ∷ 26 ∷ 35 ∷ 1 ∷ 23 ∷ 4 ∷ 28 ∷ 21 ∷ 27 ∷ 22 ∷ 34 ∷ 32 ∷ 32 ∷ 18 ∷ 10 ∷ 26 ∷ 35 ∷ 1 ∷ 23 ∷ 4 ∷ 28 ∷ 36 ∷ 24 ∷ 33 ∷ 5 ∷ 5 ∷ 17 ∷ 26 ∷ 9 ∷ 26 ∷ 10 ∷ 6 ∷ 1 ∷ 24 ∷ 38 ∷ 36 ∷ 24 ∷ 33 ∷ 5 ∷ 5 ∷ 17 ∷ 26 ∷ 9 ∷ 26 ∷ 10 ∷ 6 ∷ 1 ∷ 24 ∷ 38 ∷ 21 ∷ 27 ∷ 22 ∷ 34 ∷ 32 ∷ 32 ∷ 18 ∷ 10 ∷ 26 ∷ 35 ∷ 1 ∷ 23 ∷ 4 ∷ 28 ∷ 21 ∷ 27 ∷ 22 ∷ 34 ∷ 32 ∷ 32 ∷ 18 ∷ 10 ∷ 26 ∷ 35 ∷ 1 ∷ 23 ∷ 4 ∷ 28 ∷ 21 ∷ 27 ∷ 22 ∷ 34 ∷ 32 ∷ 32 ∷ 18 ∷ 10 ∷ 26 ∷ 35 ∷ 1 ∷ 23 ∷ 4 ∷ 28 ∷ []) (9 ∷ []) (0 ∷ 1 ∷ []) (3212836864 ∷ 1106610919 ∷ 1089304284 ∷ 1090759136 ∷ 1100121830 ∷ 1084029876 ∷ 1105772065 ∷ 1092727832 ∷ 1094929848 ∷ 1099534651 ∷ [])

abbrev answer_120 : Answer
answer_120 = best_at 0 1108344832 6

-- score
abbrev job_121 : Job
job_121 = scoring 128 (4294967122 ∷ []) (58 ∷ 111 ∷ 112 ∷ 66 ∷ 17 ∷ 117 ∷ 91 ∷ 55 ∷ 94 ∷ 72 ∷ 34 ∷ 97 ∷ 108 ∷ 66 ∷ []) (8 ∷ []) (4294967122 ∷ []) (2143289344 ∷ 0 ∷ [])

abbrev answer_121 : Answer
answer_121 = none_scored

-- score
abbrev job_122 : Job
job_122 = scoring 255 (4134155809 ∷ 3233677978 ∷ []) (run 14 214 0 (run 14 154 0 ([]))) (4 ∷ 5 ∷ 7 ∷ 11 ∷ 6 ∷ 2 ∷ 8 ∷ 9 ∷ 10 ∷ 0 ∷ 3 ∷ 13 ∷ 1 ∷ 12 ∷ []) (4134155809 ∷ 4134155810 ∷ 4134155812 ∷ 4134155813 ∷ 4134155817 ∷ 4134155821 ∷ 4134155822 ∷ 4134155823 ∷ 4134155824 ∷ 4134155825 ∷ 4134155827 ∷ 4134155828 ∷ 4134155833 ∷ 4134155834 ∷ 4134155837 ∷ 4134155838 ∷ 4134155839 ∷ 4134155842 ∷ 4134155843 ∷ 4134155845 ∷ 4134155846 ∷ []) (0 ∷ 0 ∷ 1065353216 ∷ [])

abbrev answer_122 : Answer
answer_122 = none_scored

-- score
abbrev job_123 : Job
job_123 = scoring 16 (4164096574 ∷ 3796992962 ∷ 4121819065 ∷ 4155446748 ∷ 30713296 ∷ 822301729 ∷ []) (8 ∷ 8 ∷ 4 ∷ 4 ∷ 11 ∷ 11 ∷ 11 ∷ 11 ∷ 0 ∷ 3 ∷ 15 ∷ 7 ∷ 9 ∷ 2 ∷ 8 ∷ 8 ∷ 4 ∷ 4 ∷ 11 ∷ 11 ∷ 11 ∷ 11 ∷ 0 ∷ 3 ∷ 15 ∷ 7 ∷ 5 ∷ 1 ∷ 8 ∷ 8 ∷ 4 ∷ 4 ∷ 11 ∷ 6 ∷ 11 ∷ 2 ∷ 0 ∷ 3 ∷ 15 ∷ 7 ∷ 9 ∷ 12 ∷ 8 ∷ 8 ∷ 4 ∷ 4 ∷ 0 ∷ 11 ∷ 11 ∷ 11 ∷ 0 ∷ 3 ∷ 15 ∷ 7 ∷ 9 ∷ 1 ∷ 8 ∷ 8 ∷ 4 ∷ 4 ∷ 11 ∷ 11 ∷ 0 ∷ 2 ∷ 0 ∷ 3 ∷ 3 ∷ 7 ∷ 9 ∷ 1 ∷ 8 ∷ 14 ∷ 4 ∷ 4 ∷ 11 ∷ 11 ∷ 11 ∷ 14 ∷ 0 ∷ 3 ∷ 12 ∷ 7 ∷ 9 ∷ 1 ∷ []) (6 ∷ 8 ∷ 11 ∷ 5 ∷ 3 ∷ 13 ∷ 7 ∷ []) (3796992962 ∷ 4121819065 ∷ 4155446748 ∷ 4164096574 ∷ 30713296 ∷ 822301729 ∷ []) (1120272384 ∷ 0 ∷ 1065353216 ∷ 1070260237 ∷ 1073741824 ∷ 1075092088 ∷ 1076195335 ∷ [])

abbrev answer_123 : Answer
answer_123 = best_at 3796992962 0 1

-- score-ties
abbrev job_124 : Job
job_124 = scoring 16 (4294967293 ∷ 4294967293 ∷ 4294967295 ∷ 4294967295 ∷ 1 ∷ 1 ∷ []) (run 28 0 0 (run 28 1 0 (run 28 2 0 ([])))) (10 ∷ 0 ∷ 7 ∷ 8 ∷ 5 ∷ 12 ∷ 6 ∷ 13 ∷ 3 ∷ 2 ∷ 1 ∷ 11 ∷ 9 ∷ []) (4294967293 ∷ 4294967295 ∷ 1 ∷ []) (0 ∷ 0 ∷ 1065353216 ∷ 1073741824 ∷ 1073741824 ∷ 1073741824 ∷ 1077936128 ∷ [])

abbrev answer_124 : Answer
answer_124 = best_at 4294967293 1082130432 2

-- score-ties
abbrev job_125 : Job
job_125 = scoring 16 (4294967293 ∷ 997 ∷ 1997 ∷ 2997 ∷ 3997 ∷ []) (run 14 0 0 (run 14 1 0 (run 14 2 0 (run 14 3 0 (run 14 4 0 ([])))))) (2 ∷ 5 ∷ 8 ∷ []) (1073741823 ∷ []) (1085276160 ∷ 1085276160 ∷ 1085276160 ∷ 1085276160 ∷ 1085276160 ∷ 1085276160 ∷ [])

abbrev answer_125 : Answer
answer_125 = none_scored

-- score-ties
abbrev job_126 : Job
job_126 = scoring 16 (4294967293 ∷ 4294967295 ∷ 1 ∷ []) (run 42 5 0 ([])) (12 ∷ 0 ∷ []) (4294967253 ∷ 4294967256 ∷ 4294967258 ∷ 4294967261 ∷ 4294967264 ∷ 4294967265 ∷ 4294967270 ∷ 4294967272 ∷ 4294967273 ∷ 4294967274 ∷ 4294967275 ∷ 4294967277 ∷ 4294967279 ∷ 4294967280 ∷ 4294967281 ∷ 4294967282 ∷ 4294967283 ∷ 4294967284 ∷ 4294967289 ∷ []) (1085276160 ∷ 1085276160 ∷ 1085276160 ∷ 1085276160 ∷ [])

abbrev answer_126 : Answer
answer_126 = none_scored

-- score-ties
abbrev job_127 : Job
job_127 = scoring 16 (4294967293 ∷ 997 ∷ 1997 ∷ 2997 ∷ 3997 ∷ 4997 ∷ []) (run 14 0 0 (run 14 1 0 (run 28 2 0 (run 14 1 0 (run 14 0 0 ([])))))) (10 ∷ 7 ∷ 11 ∷ 2 ∷ 6 ∷ 3 ∷ 4 ∷ 8 ∷ 5 ∷ 0 ∷ 1 ∷ 12 ∷ 9 ∷ 13 ∷ []) (4294967293 ∷ 997 ∷ 1997 ∷ 2997 ∷ 3997 ∷ 4997 ∷ []) (0 ∷ 0 ∷ 1065353216 ∷ 1073741824 ∷ 1073741824 ∷ 1073741824 ∷ 1077936128 ∷ [])

abbrev answer_127 : Answer
answer_127 = best_at 4294967293 1086324736 1

-- symbols
abbrev job_128 : Job
job_128 = writing 1 ((node 0 0 0 0 0 0 11 10 0 ∷ []) ++ fill_nodes 1 1 2) (record { symbols = fill_pairs 1 0 5; queue = replicate 1 1 })

abbrev answer_128 : Answer
answer_128 = symbols_are 0 0 5 (pair 1 0 ∷ pair 2 11 ∷ pair 3 20 ∷ pair 4 0 ∷ pair 5 0 ∷ []) (replicate 1 (0))

-- symbols
abbrev job_129 : Job
job_129 = writing 3 ((node 1 17 2147483647 1 2 1690115299 7 2247510883 0 ∷ node 65537 174 649213436 446056119 806288273 65279333 9 524288 1 ∷ node 2684256940 183 1263704163 3800280140 4011957808 2516140353 6 18 1 ∷ []) ++ fill_nodes 4294967295 3 0) (record { symbols = fill_pairs 4294967295 0 13; queue = replicate 3 4294967295 })

abbrev answer_129 : Answer
answer_129 = symbols_are 0 0 12 (pair 1 18 ∷ pair 0 4294967294 ∷ pair 1 0 ∷ pair 2 9 ∷ pair 3 1048576 ∷ pair 4 0 ∷ pair 5 0 ∷ pair 1 0 ∷ pair 2 6 ∷ pair 3 36 ∷ pair 4 0 ∷ pair 5 0 ∷ pair 11 12 ∷ []) (replicate 3 (0))

-- symbols
abbrev job_130 : Job
job_130 = writing 1 ((node 0 0 0 0 0 0 7 18 0 ∷ []) ++ fill_nodes 3765523205 1 7) (record { symbols = fill_pairs 3765523205 0 0; queue = replicate 0 3765523205 })

abbrev answer_130 : Answer
answer_130 = symbols_are 7 0 0 ([]) ([])

-- symbols
abbrev job_131 : Job
job_131 = writing 3 ((node 1 17 1 2 1 0 0 0 0 ∷ node 2147483649 0 0 0 0 0 4 15 1 ∷ node 256 0 0 0 0 0 13 1 1 ∷ []) ++ fill_nodes 3127082581 3 0) (record { symbols = fill_pairs 3127082581 0 12; queue = replicate 3 3127082581 })

abbrev answer_131 : Answer
answer_131 = symbols_are 0 0 12 (pair 1 18 ∷ pair 0 2 ∷ pair 1 0 ∷ pair 2 13 ∷ pair 3 2 ∷ pair 4 0 ∷ pair 5 0 ∷ pair 1 0 ∷ pair 2 4 ∷ pair 3 30 ∷ pair 4 0 ∷ pair 5 0 ∷ []) (replicate 3 (0))

-- symbols
abbrev job_132 : Job
job_132 = writing 1 ((node 0 0 0 0 0 0 2 524287 0 ∷ []) ++ fill_nodes 4294967295 1 0) (record { symbols = fill_pairs 4294967295 0 4; queue = replicate 0 4294967295 })

abbrev answer_132 : Answer
answer_132 = symbols_are 7 0 0 (pair 4294967295 0 ∷ pair 0 1 ∷ pair 1 2 ∷ pair 2 3 ∷ []) ([])

-- symbols
abbrev job_133 : Job
job_133 = writing 3 ((node 1 11 4513 1 2 261868021 27 1136710000 0 ∷ node 0 28 2736703059 1523107113 728824638 693228895 4 11 1 ∷ node 0 62 3116471883 1373257478 160878106 854701341 10 2147483648 1 ∷ []) ++ fill_nodes 0 3 0) (record { symbols = fill_pairs 0 0 0; queue = replicate 0 0 })

abbrev answer_133 : Answer
answer_133 = symbols_are 7 0 0 ([]) ([])

-- symbol-faults
abbrev job_134 : Job
job_134 = writing 5 ((node 1 11 4294967295 1 2 0 0 0 0 ∷ node 1 0 4294967291 0 4 0 0 0 1 ∷ node 0 0 0 0 0 0 3 0 1 ∷ node 0 0 0 0 0 0 4 0 2 ∷ node 0 0 0 0 0 0 13 0 2 ∷ []) ++ fill_nodes 4294967295 5 0) (record { symbols = fill_pairs 4294967295 0 18; queue = replicate 5 4294967295 })

abbrev answer_134 : Answer
answer_134 = symbols_are 8 1 0 (pair 4294967295 0 ∷ pair 0 1 ∷ pair 1 2 ∷ pair 2 3 ∷ pair 3 4 ∷ pair 4 5 ∷ pair 5 6 ∷ pair 6 7 ∷ pair 7 8 ∷ pair 8 9 ∷ pair 9 10 ∷ pair 10 11 ∷ pair 11 12 ∷ pair 12 13 ∷ pair 13 14 ∷ pair 14 15 ∷ pair 15 16 ∷ pair 16 17 ∷ []) (replicate 5 (4294967295))

-- symbol-faults
abbrev job_135 : Job
job_135 = writing 3 ((node 1 22 10 4 2 0 0 0 0 ∷ node 0 0 0 0 0 0 9 1 1 ∷ node 0 0 0 0 0 0 11 0 1 ∷ []) ++ fill_nodes 1 3 0) (record { symbols = fill_pairs 1 0 0; queue = replicate 0 1 })

abbrev answer_135 : Answer
answer_135 = symbols_are 8 0 0 ([]) ([])

-- symbol-faults
abbrev job_136 : Job
job_136 = writing 7 ((node 1 9 4294967286 1 2 0 0 0 0 ∷ node 0 0 0 0 0 0 12 2147483647 1 ∷ node 1 17 4294967287 3 4 0 0 0 1 ∷ node 0 0 0 0 0 0 4 2147483648 2 ∷ node 1 7 4294967286 5 6 0 0 0 2 ∷ node 0 0 0 0 0 0 7 1 3 ∷ node 0 0 0 0 0 0 4 1 3 ∷ []) ++ fill_nodes 2198810281 7 0) (record { symbols = fill_pairs 2198810281 0 25; queue = replicate 7 2198810281 })

abbrev answer_136 : Answer
answer_136 = symbols_are 7 0 0 (pair 2198810281 2198810282 ∷ pair 2198810282 2198810283 ∷ pair 2198810283 2198810284 ∷ pair 2198810284 2198810285 ∷ pair 2198810285 2198810286 ∷ pair 2198810286 2198810287 ∷ pair 2198810287 2198810288 ∷ pair 2198810288 2198810289 ∷ pair 2198810289 2198810290 ∷ pair 2198810290 2198810291 ∷ pair 2198810291 2198810292 ∷ pair 2198810292 2198810293 ∷ pair 2198810293 2198810294 ∷ pair 2198810294 2198810295 ∷ pair 2198810295 2198810296 ∷ pair 2198810296 2198810297 ∷ pair 2198810297 2198810298 ∷ pair 2198810298 2198810299 ∷ pair 2198810299 2198810300 ∷ pair 2198810300 2198810301 ∷ pair 2198810301 2198810302 ∷ pair 2198810302 2198810303 ∷ pair 2198810303 2198810304 ∷ pair 2198810304 2198810305 ∷ pair 2198810305 2198810306 ∷ []) (replicate 7 (2198810281))

-- symbol-faults
abbrev job_137 : Job
job_137 = writing 7 ((node 1 0 4294967293 1 2 0 0 0 0 ∷ node 0 0 0 0 0 0 4294967295 2147483648 1 ∷ node 1 21 4294967288 3 4 0 0 0 1 ∷ node 1 10 4294967291 5 6 0 0 0 2 ∷ node 0 0 0 0 0 0 0 2147483648 2 ∷ node 0 0 0 0 0 0 12 0 3 ∷ node 0 0 0 0 0 0 1 2147483647 3 ∷ []) ++ fill_nodes 0 7 0) (record { symbols = fill_pairs 0 0 35; queue = replicate 10 0 })

abbrev answer_137 : Answer
answer_137 = symbols_are 8 1 0 (pair 0 1 ∷ pair 1 2 ∷ pair 2 3 ∷ pair 3 4 ∷ pair 4 5 ∷ pair 5 6 ∷ pair 6 7 ∷ pair 7 8 ∷ pair 8 9 ∷ pair 9 10 ∷ pair 10 11 ∷ pair 11 12 ∷ pair 12 13 ∷ pair 13 14 ∷ pair 14 15 ∷ pair 15 16 ∷ pair 16 17 ∷ pair 17 18 ∷ pair 18 19 ∷ pair 19 20 ∷ pair 20 21 ∷ pair 21 22 ∷ pair 22 23 ∷ pair 23 24 ∷ pair 24 25 ∷ pair 25 26 ∷ pair 26 27 ∷ pair 27 28 ∷ pair 28 29 ∷ pair 29 30 ∷ pair 30 31 ∷ pair 31 32 ∷ pair 32 33 ∷ pair 33 34 ∷ pair 34 35 ∷ []) (replicate 10 (0))

-- symbol-reads
abbrev job_138 : Job
job_138 = parsing (pair 1 0 ∷ pair 2 8 ∷ pair 3 64096 ∷ pair 4 0 ∷ pair 5 0 ∷ []) (fill_nodes 2615228949 0 1)

abbrev answer_138 : Answer
answer_138 = tree_is 0 0 1 (node 0 0 0 0 0 0 8 32048 0 ∷ [])

-- symbol-reads
abbrev job_139 : Job
job_139 = parsing (pair 1 23 ∷ pair 0 4294967292 ∷ pair 1 0 ∷ pair 2 10 ∷ pair 3 2147483647 ∷ pair 4 0 ∷ pair 5 0 ∷ pair 1 0 ∷ pair 2 6 ∷ pair 3 1 ∷ pair 4 0 ∷ pair 5 0 ∷ []) (fill_nodes 0 0 4)

abbrev answer_139 : Answer
answer_139 = tree_is 0 0 3 (node 1 22 2147483646 1 2 2139095040 0 0 0 ∷ node 0 0 0 0 0 0 10 3221225472 1 ∷ node 0 0 0 0 0 0 6 4294967295 1 ∷ node 1 3 3 3 3 3 3 3 3 ∷ [])

-- symbol-reads
abbrev job_140 : Job
job_140 = parsing (pair 1 19 ∷ pair 0 159044 ∷ pair 1 8 ∷ pair 0 3451218 ∷ pair 1 2 ∷ pair 0 970870686 ∷ pair 1 0 ∷ pair 2 4 ∷ pair 3 0 ∷ pair 4 0 ∷ pair 5 0 ∷ pair 1 0 ∷ pair 2 6 ∷ pair 3 0 ∷ pair 4 0 ∷ pair 5 0 ∷ pair 1 0 ∷ pair 2 0 ∷ pair 3 493 ∷ pair 4 0 ∷ pair 5 0 ∷ pair 1 0 ∷ pair 2 4 ∷ pair 3 0 ∷ pair 4 0 ∷ pair 5 0 ∷ []) (fill_nodes 474111303 0 8)

abbrev answer_140 : Answer
answer_140 = tree_is 0 0 7 (node 1 18 79522 1 2 2139095040 0 0 0 ∷ node 1 7 1725609 3 4 2139095040 0 0 1 ∷ node 1 1 485435343 5 6 2139095040 0 0 1 ∷ node 0 0 0 0 0 0 4 0 2 ∷ node 0 0 0 0 0 0 6 0 2 ∷ node 0 0 0 0 0 0 0 4294967049 2 ∷ node 0 0 0 0 0 0 4 0 2 ∷ node 0 22 474111310 474111310 474111310 474111310 8 474111310 474111310 ∷ [])

-- symbol-reads
abbrev job_141 : Job
job_141 = parsing (pair 1 0 ∷ pair 2 13 ∷ pair 3 524288 ∷ pair 4 0 ∷ pair 5 0 ∷ []) (fill_nodes 2267441443 0 8)

abbrev answer_141 : Answer
answer_141 = tree_is 0 0 1 (node 0 0 0 0 0 0 13 262144 0 ∷ node 0 20 2267441444 2267441444 2267441444 119957796 2 2267441444 2267441444 ∷ node 1 21 2267441445 2267441445 2267441445 119957797 3 2267441445 2267441445 ∷ node 0 22 2267441446 2267441446 2267441446 119957798 4 2267441446 2267441446 ∷ node 1 23 2267441447 2267441447 2267441447 119957799 5 2267441447 2267441447 ∷ node 0 0 2267441448 2267441448 2267441448 119957800 6 2267441448 2267441448 ∷ node 1 1 2267441449 2267441449 2267441449 119957801 7 2267441449 2267441449 ∷ node 0 2 2267441450 2267441450 2267441450 119957802 8 2267441450 2267441450 ∷ [])

-- symbol-reads
abbrev job_142 : Job
job_142 = parsing (pair 1 14 ∷ pair 0 1024 ∷ pair 1 0 ∷ pair 2 5 ∷ pair 3 6 ∷ pair 4 0 ∷ pair 5 0 ∷ pair 1 0 ∷ pair 2 13 ∷ pair 3 4294967293 ∷ pair 4 0 ∷ pair 5 0 ∷ []) (fill_nodes 1050030673 0 2)

abbrev answer_142 : Answer
answer_142 = tree_is 7 0 0 (node 1 1 1050030673 1050030673 1050030673 1050030673 13 1050030673 1050030673 ∷ node 0 2 1050030674 1050030674 1050030674 1050030674 0 1050030674 1050030674 ∷ [])

-- symbol-reads
abbrev job_143 : Job
job_143 = parsing (pair 1 0 ∷ pair 2 2 ∷ pair 3 52 ∷ pair 4 0 ∷ pair 5 0 ∷ []) (fill_nodes 0 0 0)

abbrev answer_143 : Answer
answer_143 = tree_is 7 0 0 ([])

-- unreadable
abbrev job_144 : Job
job_144 = parsing (pair 1 24 ∷ pair 0 1 ∷ pair 1 0 ∷ pair 2 13 ∷ pair 3 126 ∷ pair 4 0 ∷ pair 5 0 ∷ pair 1 0 ∷ pair 3 10 ∷ pair 3 2 ∷ pair 4 0 ∷ pair 5 0 ∷ []) (fill_nodes 0 0 3)

abbrev answer_144 : Answer
answer_144 = tree_is 11 0 0 (node 0 0 0 0 0 0 0 0 0 ∷ node 1 1 1 1 1 1 1 1 1 ∷ node 0 2 2 2 2 2 2 2 2 ∷ [])

-- unreadable
abbrev job_145 : Job
job_145 = parsing (pair 1 20 ∷ pair 0 4294967293 ∷ pair 1 0 ∷ pair 2 11 ∷ pair 3 4294967294 ∷ pair 4 0 ∷ pair 5 0 ∷ pair 1 0 ∷ pair 2 7 ∷ pair 3 68 ∷ pair 5 0 ∷ pair 5 0 ∷ []) (fill_nodes 1990897767 0 6)

abbrev answer_145 : Answer
answer_145 = tree_is 11 0 0 (node 1 15 1990897767 1990897767 1990897767 917155943 5 1990897767 1990897767 ∷ node 0 16 1990897768 1990897768 1990897768 917155944 6 1990897768 1990897768 ∷ node 1 17 1990897769 1990897769 1990897769 917155945 7 1990897769 1990897769 ∷ node 0 18 1990897770 1990897770 1990897770 917155946 8 1990897770 1990897770 ∷ node 1 19 1990897771 1990897771 1990897771 917155947 9 1990897771 1990897771 ∷ node 0 20 1990897772 1990897772 1990897772 917155948 10 1990897772 1990897772 ∷ [])

-- unreadable
abbrev job_146 : Job
job_146 = parsing (pair 1 20 ∷ pair 0 36 ∷ pair 1 0 ∷ pair 2 0 ∷ pair 3 336 ∷ pair 4 0 ∷ pair 5 0 ∷ pair 3 16 ∷ pair 0 0 ∷ pair 1 0 ∷ pair 2 0 ∷ pair 3 2147483646 ∷ pair 4 0 ∷ pair 5 0 ∷ pair 1 0 ∷ pair 2 11 ∷ pair 3 0 ∷ pair 4 0 ∷ pair 5 0 ∷ []) (fill_nodes 3663139041 0 0)

abbrev answer_146 : Answer
answer_146 = tree_is 11 0 0 ([])

-- unreadable
abbrev job_147 : Job
job_147 = parsing (pair 1 23 ∷ pair 0 4294967292 ∷ pair 1 13 ∷ pair 0 262142 ∷ pair 1 0 ∷ pair 2 2 ∷ pair 3 67108864 ∷ pair 4 0 ∷ pair 5 0 ∷ pair 4 0 ∷ pair 2 13 ∷ pair 3 12040722 ∷ pair 4 0 ∷ pair 5 0 ∷ pair 1 0 ∷ pair 2 6 ∷ pair 3 78 ∷ pair 4 0 ∷ pair 5 0 ∷ []) (fill_nodes 660985003 0 0)

abbrev answer_147 : Answer
answer_147 = tree_is 11 0 0 ([])

-- unreadable
abbrev job_148 : Job
job_148 = parsing (pair 1 4 ∷ pair 0 2147483646 ∷ pair 1 0 ∷ pair 2 2 ∷ pair 3 2 ∷ pair 4 0 ∷ pair 5 0 ∷ pair 1 7 ∷ pair 0 7916938 ∷ pair 1 0 ∷ pair 2 4 ∷ pair 3 354 ∷ pair 1 0 ∷ pair 5 0 ∷ pair 1 0 ∷ pair 2 11 ∷ pair 3 3954 ∷ pair 4 0 ∷ pair 5 0 ∷ []) (fill_nodes 0 0 0)

abbrev answer_148 : Answer
answer_148 = tree_is 11 0 0 ([])

-- unreadable
abbrev job_149 : Job
job_149 = parsing (pair 1 21 ∷ pair 0 262142 ∷ pair 5 0 ∷ pair 2 4 ∷ pair 3 4294967292 ∷ pair 4 0 ∷ pair 5 0 ∷ pair 1 0 ∷ pair 2 2 ∷ pair 3 4294967292 ∷ pair 4 0 ∷ pair 5 0 ∷ []) (fill_nodes 3084907471 0 6)

abbrev answer_149 : Answer
answer_149 = tree_is 11 0 0 (node 1 7 3084907471 3084907471 3084907471 937423823 9 3084907471 3084907471 ∷ node 0 8 3084907472 3084907472 3084907472 937423824 10 3084907472 3084907472 ∷ node 1 9 3084907473 3084907473 3084907473 937423825 11 3084907473 3084907473 ∷ node 0 10 3084907474 3084907474 3084907474 937423826 12 3084907474 3084907474 ∷ node 1 11 3084907475 3084907475 3084907475 937423827 13 3084907475 3084907475 ∷ node 0 12 3084907476 3084907476 3084907476 937423828 0 3084907476 3084907476 ∷ [])

-- depths
abbrev job_150 : Job
job_150 = numbering 3 ((node 1 5 8 2 1 1077350139 7 1493910013 4294967295 ∷ node 0 116 1088762108 3222920561 345520835 3698943485 9 2147483648 1 ∷ node 0 241 2722649445 4270637469 4111079314 456220011 10 4294967289 1 ∷ []) ++ fill_nodes 1 3 2) (record { contexts = replicate 3 1; queue = replicate 4 1 })

abbrev answer_150 : Answer
answer_150 = contexts_are 8 0 0 (1 ∷ 1 ∷ 1 ∷ []) (replicate 4 (1))

-- depths
abbrev job_151 : Job
job_151 = looking 1 ((node 0 0 0 0 0 0 1 1 4294967295 ∷ []) ++ fill_nodes 0 1 1) (4294967290 ∷ 5 ∷ 4294967294 ∷ 4294967285 ∷ 12 ∷ 4294967294 ∷ 4 ∷ 4 ∷ 4294967285 ∷ 4294967295 ∷ 12 ∷ 4294967286 ∷ 4 ∷ 5 ∷ 4294967293 ∷ 4294967286 ∷ 3 ∷ 8 ∷ 7 ∷ 4294967291 ∷ 9 ∷ 3 ∷ 4294967285 ∷ 4294967295 ∷ [])

abbrev answer_151 : Answer
answer_151 = leaf_at 0 1

-- depths
abbrev job_152 : Job
job_152 = numbering 3 ((node 0 0 0 0 0 0 0 0 0 ∷ node 0 0 0 0 0 0 0 0 0 ∷ node 1 0 0 1 1 0 0 0 4294967294 ∷ []) ++ fill_nodes 3119663025 3 2) (record { contexts = replicate 10 3119663025; queue = replicate 5 3119663025 })

abbrev answer_152 : Answer
answer_152 = contexts_are 8 1 0 (run 10 3119663025 0 ([])) (replicate 5 (3119663025))

-- depths
abbrev job_153 : Job
job_153 = writing 1 ((node 0 0 0 0 0 0 8 2147483648 0 ∷ []) ++ fill_nodes 3996665293 1 2) (record { symbols = fill_pairs 3996665293 0 5; queue = replicate 1 3996665293 })

abbrev answer_153 : Answer
answer_153 = symbols_are 0 0 5 (pair 1 0 ∷ pair 2 8 ∷ pair 3 4294967295 ∷ pair 4 0 ∷ pair 5 0 ∷ []) (replicate 1 (0))

-- depths
abbrev job_154 : Job
job_154 = looking 3 ((node 1 14 4294967290 1 2 0 0 0 1 ∷ node 0 0 0 0 0 0 13 2147483647 1 ∷ node 0 0 0 0 0 0 11 0 1 ∷ []) ++ fill_nodes 0 3 0) (4294967292 ∷ 10 ∷ 5 ∷ 4294967287 ∷ 11 ∷ 2 ∷ 4294967284 ∷ 8 ∷ 4 ∷ 4294967295 ∷ 0 ∷ 4294967294 ∷ 3 ∷ 4294967291 ∷ 4294967295 ∷ 4294967292 ∷ 5 ∷ 4294967294 ∷ 4294967287 ∷ 0 ∷ 6 ∷ 4294967284 ∷ 3 ∷ 7 ∷ [])

abbrev answer_154 : Answer
answer_154 = leaf_at 1 13

-- depths
abbrev job_155 : Job
job_155 = numbering 1 ((node 0 0 0 0 0 0 13 4294967289 0 ∷ []) ++ fill_nodes 1 1 0) (record { contexts = replicate 1 1; queue = replicate 1 1 })

abbrev answer_155 : Answer
answer_155 = contexts_are 0 0 1 (0 ∷ []) (replicate 1 (0))

-- depths
abbrev job_156 : Job
job_156 = writing 3 ((node 1 12 7 1 2 60706838 13 424243115 0 ∷ node 0 88 413116544 4010038791 2197626507 218694173 8 0 1 ∷ node 0 252 337418716 4053071700 4096707241 1022346374 13 4294967289 0 ∷ []) ++ fill_nodes 0 3 2) (record { symbols = fill_pairs 0 0 15; queue = replicate 3 0 })

abbrev answer_156 : Answer
answer_156 = symbols_are 8 2 0 (pair 0 1 ∷ pair 1 2 ∷ pair 2 3 ∷ pair 3 4 ∷ pair 4 5 ∷ pair 5 6 ∷ pair 6 7 ∷ pair 7 8 ∷ pair 8 9 ∷ pair 9 10 ∷ pair 10 11 ∷ pair 11 12 ∷ pair 12 13 ∷ pair 13 14 ∷ pair 14 15 ∷ []) (replicate 3 (0))

-- depths
abbrev job_157 : Job
job_157 = looking 3 ((node 0 0 0 0 0 0 0 0 0 ∷ node 0 0 0 0 0 0 0 0 0 ∷ node 1 0 0 1 1 0 0 0 4294967295 ∷ []) ++ fill_nodes 1 3 0) (4 ∷ 4 ∷ 4294967291 ∷ 4294967289 ∷ 4294967291 ∷ 4294967294 ∷ 6 ∷ 10 ∷ 6 ∷ 4294967293 ∷ 4294967286 ∷ 4294967286 ∷ 4294967294 ∷ 1 ∷ 4294967292 ∷ 4294967290 ∷ 4294967291 ∷ 10 ∷ 4294967291 ∷ 12 ∷ 4294967290 ∷ 2 ∷ 4294967288 ∷ 8 ∷ [])

abbrev answer_157 : Answer
answer_157 = leaf_at 0 0

-- depths
abbrev job_158 : Job
job_158 = numbering 3 ((node 1 8 4 1 2 0 0 0 0 ∷ node 0 0 0 0 0 0 5 1 1 ∷ node 0 0 0 0 0 0 8 2147483647 1 ∷ []) ++ fill_nodes 679208149 3 1) (record { contexts = replicate 5 679208149; queue = replicate 3 679208149 })

abbrev answer_158 : Answer
answer_158 = contexts_are 0 0 2 (4294967295 ∷ 0 ∷ 1 ∷ 679208149 ∷ 679208149 ∷ []) (replicate 3 (0))

-- depths
abbrev job_159 : Job
job_159 = looking 1 ((node 0 0 0 0 0 0 13 2147483648 4294967295 ∷ []) ++ fill_nodes 1 1 0) (5 ∷ 4294967293 ∷ 12 ∷ 6 ∷ 2 ∷ 0 ∷ 9 ∷ 0 ∷ 4294967292 ∷ 4294967287 ∷ 4294967289 ∷ 4294967290 ∷ 5 ∷ 4294967295 ∷ 4294967294 ∷ 4294967291 ∷ 7 ∷ 4294967285 ∷ 2 ∷ 4294967292 ∷ 3 ∷ 3 ∷ 10 ∷ 4294967291 ∷ [])

abbrev answer_159 : Answer
answer_159 = leaf_at 0 13

-- depths
abbrev job_160 : Job
job_160 = writing 3 ((node 0 104 2595755052 796243096 3721761673 2025714201 0 0 0 ∷ node 0 232 3259903913 1339540640 3238584189 3881397320 0 0 0 ∷ node 1 0 0 1 1 298984133 0 495478116 4294967295 ∷ []) ++ fill_nodes 0 3 0) (record { symbols = fill_pairs 0 0 15; queue = replicate 5 0 })

abbrev answer_160 : Answer
answer_160 = symbols_are 8 1 0 (pair 0 1 ∷ pair 1 2 ∷ pair 2 3 ∷ pair 3 4 ∷ pair 4 5 ∷ pair 5 6 ∷ pair 6 7 ∷ pair 7 8 ∷ pair 8 9 ∷ pair 9 10 ∷ pair 10 11 ∷ pair 11 12 ∷ pair 12 13 ∷ pair 13 14 ∷ pair 14 15 ∷ []) (replicate 5 (0))

-- depths
abbrev job_161 : Job
job_161 = looking 3 ((node 0 0 0 0 0 0 0 0 0 ∷ node 0 0 0 0 0 0 0 0 4294967294 ∷ node 1 0 0 1 1 0 0 0 4294967294 ∷ []) ++ fill_nodes 3564254691 3 1) (4294967289 ∷ 10 ∷ 8 ∷ 4294967288 ∷ 3 ∷ 4294967293 ∷ 9 ∷ 4294967292 ∷ 10 ∷ 4294967289 ∷ 4294967291 ∷ 4294967289 ∷ 4294967287 ∷ 4294967293 ∷ 9 ∷ 2 ∷ 6 ∷ 5 ∷ 1 ∷ 12 ∷ 12 ∷ 10 ∷ 4294967290 ∷ 12 ∷ [])

abbrev answer_161 : Answer
answer_161 = leaf_at 0 0

-- at most 5, 31 or 33 candidates
abbrev job_162 : Job
job_162 = thresholds (4294967291 ∷ 4294967292 ∷ 4294967293 ∷ 4294967294 ∷ 4294967295 ∷ run 29 0 1 ([])) 4294967295

abbrev answer_162 : Answer
answer_162 = integers (words (4294967291 ∷ 4294967292 ∷ 4294967293 ∷ 4294967294 ∷ 4294967295 ∷ run 27 0 1 ([])))

-- stride 1 for 2,048 rows; probes from the second row
abbrev job_163 : Job
job_163 = thresholds (4294967291 ∷ 4294967292 ∷ 4294967293 ∷ 4294967294 ∷ 4294967295 ∷ run 2043 0 1 ([])) 5

abbrev answer_163 : Answer
answer_163 = integers (words (4294967291 ∷ 403 ∷ 811 ∷ 1222 ∷ 1630 ∷ []))

-- pruning by gt + (le + price)
abbrev job_164 : Job
job_164 = pruning 763363328 (node 1 3 7 1 2 775946240 0 0 0 ∷ node 1 4 7 3 4 2139095040 0 0 1 ∷ node 0 0 0 0 0 3355443200 1 0 1 ∷ node 0 0 0 0 0 1207959552 2 0 2 ∷ node 0 0 0 0 0 763363328 3 0 2 ∷ []) (span 845399837 845399838 ∷ span 845399838 845399839 ∷ span 845399839 845399840 ∷ span 845399840 845399841 ∷ span 845399841 845399842 ∷ [])

abbrev answer_164 : Answer
answer_164 = pruned_to (f64 0) 5 (node 1 3 7 1 4 775946240 0 0 0 ∷ node 1 4 7 2 3 2139095040 0 0 1 ∷ node 0 0 0 0 0 1207959552 2 0 2 ∷ node 0 0 0 0 0 763363328 3 0 2 ∷ node 0 0 0 0 0 3355443200 1 0 1 ∷ []) (span 845399837 845399838 ∷ span 845399838 845399839 ∷ span 845399840 845399841 ∷ span 845399841 845399842 ∷ span 845399839 845399840 ∷ [])

-- sampling: 7 before 3
abbrev job_165 : Job
job_165 = sampling 4294967299 3 (replicate 2 0)

abbrev answer_165 : Answer
answer_165 = sample_is 3 0 0 (0 ∷ 0 ∷ [])

-- sampling: 65,536 rows refused
abbrev job_166 : Job
job_166 = sampling 65536 1 (replicate 1 3366687519)

abbrev answer_166 : Answer
answer_166 = sample_is 0 0 1 (0 ∷ [])

-- lookup: 8 before 9
abbrev job_167 : Job
job_167 = looking 0 ((node 0 0 0 0 0 0 13 1 0 ∷ []) ++ fill_nodes 0 1 0) (4294967274 ∷ [])

abbrev answer_167 : Answer
answer_167 = no_leaf_at 9 0

-- lookup: a count beyond the list passes
abbrev job_168 : Job
job_168 = looking 4294967295 ((node 0 188 3650193776 4294967295 1001413669 2659779479 4 2147483648 0 ∷ []) ++ fill_nodes 0 1 0) (0 ∷ 44825 ∷ 3 ∷ 6 ∷ 4294962920 ∷ 3860 ∷ 4294967287 ∷ 1822723 ∷ 3 ∷ 4294951847 ∷ 0 ∷ 3 ∷ 136 ∷ 41 ∷ 111 ∷ 412 ∷ 0 ∷ 4294967295 ∷ 424 ∷ 4294966488 ∷ 1 ∷ 361 ∷ 3 ∷ 4294967150 ∷ [])

abbrev answer_168 : Answer
answer_168 = no_leaf_at 8 0

-- contexts: context list not counted
abbrev job_169 : Job
job_169 = numbering 1 ((node 0 0 0 0 0 0 8 4294967289 0 ∷ []) ++ fill_nodes 0 1 2) (record { contexts = replicate 0 0; queue = replicate 1 0 })

abbrev answer_169 : Answer
answer_169 = contexts_are 7 0 0 ([]) (replicate 1 (0))

-- gt the node itself passes
abbrev job_170 : Job
job_170 = numbering 3 ((node 1 13 9 0 2 0 0 0 0 ∷ node 0 0 0 0 0 0 9 2147483647 1 ∷ node 0 0 0 0 0 0 2 0 1 ∷ []) ++ fill_nodes 3009980163 3 0) (record { contexts = replicate 5 3009980163; queue = replicate 5 3009980163 })

abbrev answer_170 : Answer
answer_170 = contexts_are 8 0 0 (3009980163 ∷ 3009980163 ∷ 3009980163 ∷ 3009980163 ∷ 3009980163 ∷ []) (replicate 5 (3009980163))

-- le the node itself passes
abbrev job_171 : Job
job_171 = numbering 2 ((node 1 8 7 1 0 0 0 0 0 ∷ node 0 0 0 0 0 0 8 2147483647 1 ∷ node 0 0 0 0 0 0 3 0 1 ∷ []) ++ fill_nodes 1349383937 3 2) (record { contexts = replicate 9 1349383937; queue = replicate 4 1349383937 })

abbrev answer_171 : Answer
answer_171 = contexts_are 8 0 0 (run 9 1349383937 0 ([])) (replicate 4 (1349383937))

-- le the count passes
abbrev job_172 : Job
job_172 = numbering 4 ((node 1 8 6 1 2 0 0 0 0 ∷ node 1 21 4294967294 3 4 0 0 0 1 ∷ node 0 0 0 0 0 0 5 1 1 ∷ node 0 0 0 0 0 0 14 0 2 ∷ []) ++ fill_nodes 1372620297 4 1) (record { contexts = replicate 11 1372620297; queue = replicate 10 1372620297 })

abbrev answer_172 : Answer
answer_172 = contexts_are 8 1 0 (run 11 1372620297 0 ([])) (replicate 10 (1372620297))

-- a node with two parents passes
abbrev job_173 : Job
job_173 = numbering 4 ((node 1 14 4294967292 1 2 0 0 0 0 ∷ node 0 0 0 0 0 0 9 4294967289 1 ∷ node 0 0 0 0 0 0 2 1 0 ∷ node 1 0 0 1 2 0 0 0 0 ∷ []) ++ fill_nodes 3663912687 4 0) (record { contexts = replicate 6 3663912687; queue = replicate 4 3663912687 })

abbrev answer_173 : Answer
answer_173 = contexts_are 8 1 0 (3663912687 ∷ 3663912687 ∷ 3663912687 ∷ 3663912687 ∷ 3663912687 ∷ 3663912687 ∷ []) (replicate 4 (3663912687))

-- property 24 passes
abbrev job_174 : Job
job_174 = numbering 3 ((node 1 24 4294967290 1 2 0 0 0 0 ∷ node 0 0 0 0 0 0 11 0 0 ∷ node 0 0 0 0 0 0 2 0 1 ∷ []) ++ fill_nodes 2577318255 3 1) (record { contexts = replicate 3 2577318255; queue = replicate 3 2577318255 })

abbrev answer_174 : Answer
answer_174 = contexts_are 8 0 0 (2577318255 ∷ 2577318255 ∷ 2577318255 ∷ []) (replicate 3 (2577318255))

-- the rows above counted, or those under the threshold, or all, or one fewer
abbrev job_175 : Job
job_175 = scoring 40 (0 ∷ 3221225472 ∷ 3221225472 ∷ 0 ∷ 0 ∷ 2147483646 ∷ 0 ∷ 2147483646 ∷ 2147483647 ∷ 2147483648 ∷ 4294967295 ∷ []) (22 ∷ 38 ∷ 17 ∷ 7 ∷ 37 ∷ 32 ∷ 37 ∷ 11 ∷ 6 ∷ 19 ∷ 12 ∷ 14 ∷ 32 ∷ 2 ∷ 39 ∷ 30 ∷ 17 ∷ 7 ∷ 39 ∷ 32 ∷ 38 ∷ 11 ∷ 6 ∷ 19 ∷ 25 ∷ 1 ∷ 32 ∷ 2 ∷ 39 ∷ 30 ∷ 17 ∷ 9 ∷ 39 ∷ 32 ∷ 18 ∷ 35 ∷ 6 ∷ 19 ∷ 12 ∷ 1 ∷ 38 ∷ 2 ∷ 39 ∷ 28 ∷ 17 ∷ 7 ∷ 39 ∷ 32 ∷ 38 ∷ 11 ∷ 6 ∷ 19 ∷ 12 ∷ 22 ∷ 32 ∷ 2 ∷ 13 ∷ 30 ∷ 34 ∷ 7 ∷ 34 ∷ 2 ∷ 38 ∷ 11 ∷ 6 ∷ 19 ∷ 12 ∷ 38 ∷ 32 ∷ 2 ∷ 39 ∷ 5 ∷ 17 ∷ 7 ∷ 22 ∷ 32 ∷ 38 ∷ 11 ∷ 6 ∷ 19 ∷ 12 ∷ 15 ∷ 32 ∷ 3 ∷ 39 ∷ 30 ∷ 17 ∷ 7 ∷ 39 ∷ 32 ∷ 38 ∷ 11 ∷ 13 ∷ 19 ∷ 12 ∷ 5 ∷ 32 ∷ 36 ∷ 39 ∷ 30 ∷ 15 ∷ 7 ∷ 39 ∷ 32 ∷ 17 ∷ 11 ∷ 6 ∷ 19 ∷ 12 ∷ 1 ∷ 32 ∷ 2 ∷ 39 ∷ 30 ∷ 17 ∷ 7 ∷ 36 ∷ 32 ∷ 19 ∷ 34 ∷ 6 ∷ 19 ∷ 12 ∷ 23 ∷ 17 ∷ 8 ∷ 7 ∷ 2 ∷ 17 ∷ 7 ∷ 39 ∷ 32 ∷ 38 ∷ 23 ∷ 21 ∷ 19 ∷ 12 ∷ 1 ∷ 32 ∷ 2 ∷ 39 ∷ 30 ∷ 17 ∷ 7 ∷ 25 ∷ 32 ∷ 38 ∷ 22 ∷ 6 ∷ 19 ∷ 12 ∷ 1 ∷ 32 ∷ 2 ∷ []) (12 ∷ 13 ∷ 11 ∷ 2 ∷ []) (2147483648 ∷ 3221225472 ∷ 4294967295 ∷ 0 ∷ 1073741823 ∷ 2147483646 ∷ 2147483647 ∷ []) (1120272384 ∷ 0 ∷ 1065353216 ∷ 1070260237 ∷ 1073741824 ∷ 1075092088 ∷ 1076195335 ∷ 1077128116 ∷ 1077936128 ∷ 1078648845 ∷ 1079286392 ∷ 1079863124 ∷ [])

abbrev answer_175 : Answer
answer_175 = best_at 0 1098961861 8

-- the last of the lowest thresholds; the rows counted of another threshold
abbrev job_176 : Job
job_176 = scoring 16 (4294967293 ∷ 997 ∷ 1997 ∷ 2997 ∷ 3997 ∷ 4997 ∷ 5997 ∷ 6997 ∷ 7997 ∷ []) (run 14 0 0 (run 14 1 0 (run 14 2 0 (run 14 3 0 (run 14 4 0 (run 14 5 0 (run 14 6 0 (run 14 7 0 (run 14 8 0 ([])))))))))) (2 ∷ []) (4294967293 ∷ 997 ∷ 1997 ∷ 2997 ∷ 3997 ∷ 4997 ∷ 5997 ∷ 6997 ∷ 7997 ∷ []) (0 ∷ 0 ∷ 1065353216 ∷ 1073741824 ∷ 1073741824 ∷ 1073741824 ∷ 1077936128 ∷ 1077936128 ∷ 1077936128 ∷ 1077936128 ∷ [])

abbrev answer_176 : Answer
answer_176 = best_at 2997 1099956224 4

-- nodes in preorder, or as they are numbered; le first; contexts traded
abbrev job_177 : Job
job_177 = writing 5 ((node 1 0 1 1 3 593053311 25 1588463478 0 ∷ node 1 2 1 4 2 3425236260 10 3898105356 1 ∷ node 0 52 1929269282 1662691261 3961186824 2219807405 6 0 2 ∷ node 0 246 3088541353 1976155766 2674078526 3091314022 4 0 1 ∷ node 0 98 2184034256 3527707017 353847386 1642453398 1 0 2 ∷ []) ++ fill_nodes 1176453733 5 0) (record { symbols = fill_pairs 1176453733 0 19; queue = replicate 5 1176453733 })

abbrev answer_177 : Answer
answer_177 = symbols_are 0 0 19 (pair 1 1 ∷ pair 0 2 ∷ pair 1 3 ∷ pair 0 2 ∷ pair 1 0 ∷ pair 2 4 ∷ pair 3 0 ∷ pair 4 0 ∷ pair 5 0 ∷ pair 1 0 ∷ pair 2 1 ∷ pair 3 0 ∷ pair 4 0 ∷ pair 5 0 ∷ pair 1 0 ∷ pair 2 6 ∷ pair 3 0 ∷ pair 4 0 ∷ pair 5 0 ∷ []) (replicate 5 (0))

-- one pair too few
abbrev job_178 : Job
job_178 = writing 9 ((node 1 23 12662629 3 1 0 0 0 0 ∷ node 1 3 2147483649 5 2 0 0 0 1 ∷ node 0 0 0 0 0 0 7 3221225472 2 ∷ node 1 14 2147483647 6 4 0 0 0 1 ∷ node 0 0 0 0 0 0 11 2147483648 2 ∷ node 0 0 0 0 0 0 3 58014106 2 ∷ node 1 10 268435455 8 7 0 0 0 2 ∷ node 0 0 0 0 0 0 3 11 3 ∷ node 0 0 0 0 0 0 6 5 3 ∷ []) ++ fill_nodes 1 9 0) (record { symbols = fill_pairs 1 0 32; queue = replicate 9 1 })

abbrev answer_178 : Answer
answer_178 = symbols_are 7 0 0 (pair 1 2 ∷ pair 2 3 ∷ pair 3 4 ∷ pair 4 5 ∷ pair 5 6 ∷ pair 6 7 ∷ pair 7 8 ∷ pair 8 9 ∷ pair 9 10 ∷ pair 10 11 ∷ pair 11 12 ∷ pair 12 13 ∷ pair 13 14 ∷ pair 14 15 ∷ pair 15 16 ∷ pair 16 17 ∷ pair 17 18 ∷ pair 18 19 ∷ pair 19 20 ∷ pair 20 21 ∷ pair 21 22 ∷ pair 22 23 ∷ pair 23 24 ∷ pair 24 25 ∷ pair 25 26 ∷ pair 26 27 ∷ pair 27 28 ∷ pair 28 29 ∷ pair 29 30 ∷ pair 30 31 ∷ pair 31 32 ∷ pair 32 33 ∷ []) (replicate 9 (1))

-- a queue one short; property 23 refused
abbrev job_179 : Job
job_179 = writing 9 ((node 1 6 4294967295 1 8 2780960807 7 2887201570 0 ∷ node 1 23 2962 2 7 4104037667 22 1983069369 1 ∷ node 1 5 757524540 3 6 1216561994 20 535600267 2 ∷ node 1 12 30326349 4 5 4132382195 28 2950268886 3 ∷ node 4294967295 199 1247216901 3784590443 997421505 1809858250 10 2147483649 4 ∷ node 256 213 2762522051 139129086 2449621020 2094787028 2 1048576 4 ∷ node 3 147 1069899848 706609505 1751472685 3992447894 11 29 3 ∷ node 2525361812 182 1697589213 2917253014 408054819 3769857758 7 1 2 ∷ node 828665776 103 3853689310 2641881004 714328598 4121229683 6 4294967295 1 ∷ []) ++ fill_nodes 0 9 0) (record { symbols = fill_pairs 0 0 33; queue = replicate 8 0 })

abbrev answer_179 : Answer
answer_179 = symbols_are 7 0 0 (pair 0 1 ∷ pair 1 2 ∷ pair 2 3 ∷ pair 3 4 ∷ pair 4 5 ∷ pair 5 6 ∷ pair 6 7 ∷ pair 7 8 ∷ pair 8 9 ∷ pair 9 10 ∷ pair 10 11 ∷ pair 11 12 ∷ pair 12 13 ∷ pair 13 14 ∷ pair 14 15 ∷ pair 15 16 ∷ pair 16 17 ∷ pair 17 18 ∷ pair 18 19 ∷ pair 19 20 ∷ pair 20 21 ∷ pair 21 22 ∷ pair 22 23 ∷ pair 23 24 ∷ pair 24 25 ∷ pair 25 26 ∷ pair 26 27 ∷ pair 27 28 ∷ pair 28 29 ∷ pair 29 30 ∷ pair 30 31 ∷ pair 31 32 ∷ pair 32 33 ∷ []) (replicate 8 (0))

-- entries past those written changed; a queue cleared in part
abbrev job_180 : Job
job_180 = writing 9 ((node 1 11 27 1 6 3105586173 8 2652518788 0 ∷ node 1 16 105 2 5 1466500014 29 3534752936 1 ∷ node 1 7 257479465 3 4 2443868673 22 3759831507 2 ∷ node 0 96 711837037 16442491 3713922946 802213491 6 1073741823 3 ∷ node 0 170 4160668134 1550111472 3510470784 3755231177 5 16384 3 ∷ node 0 143 3098001833 1277257183 2809601522 1187089905 3 2147483649 2 ∷ node 1 20 17 7 8 3063640616 1 3140653093 1 ∷ node 0 240 2174702779 2090700062 2092377910 3828561482 1 2147483647 2 ∷ node 0 191 2236995169 4171223335 3082595983 3199110532 5 2147483648 2 ∷ []) ++ fill_nodes 504485353 9 7) (record { symbols = fill_pairs 504485353 0 42; queue = replicate 14 504485353 })

abbrev answer_180 : Answer
answer_180 = symbols_are 0 0 33 (pair 1 12 ∷ pair 0 54 ∷ pair 1 17 ∷ pair 0 210 ∷ pair 1 21 ∷ pair 0 34 ∷ pair 1 8 ∷ pair 0 514958930 ∷ pair 1 0 ∷ pair 2 3 ∷ pair 3 4294967293 ∷ pair 4 0 ∷ pair 5 0 ∷ pair 1 0 ∷ pair 2 1 ∷ pair 3 4294967294 ∷ pair 4 0 ∷ pair 5 0 ∷ pair 1 0 ∷ pair 2 5 ∷ pair 3 4294967295 ∷ pair 4 0 ∷ pair 5 0 ∷ pair 1 0 ∷ pair 2 6 ∷ pair 3 2147483646 ∷ pair 4 0 ∷ pair 5 0 ∷ pair 1 0 ∷ pair 2 5 ∷ pair 3 32768 ∷ pair 4 0 ∷ pair 5 0 ∷ pair 504485386 504485387 ∷ pair 504485387 504485388 ∷ pair 504485388 504485389 ∷ pair 504485389 504485390 ∷ pair 504485390 504485391 ∷ pair 504485391 504485392 ∷ pair 504485392 504485393 ∷ pair 504485393 504485394 ∷ pair 504485394 504485395 ∷ []) (replicate 14 (0))

-- 7 before 8
abbrev job_181 : Job
job_181 = writing 3 ((node 1 255 10 2 1 0 0 0 0 ∷ node 0 0 0 0 0 0 5 2147483647 1 ∷ node 0 0 0 0 0 0 2 0 1 ∷ []) ++ fill_nodes 1 3 0) (record { symbols = fill_pairs 1 0 0; queue = replicate 0 1 })

abbrev answer_181 : Answer
answer_181 = symbols_are 8 0 0 ([]) ([])

-- a count beyond the list passes
abbrev job_182 : Job
job_182 = writing 14 ((node 1 23 4294967293 8 1 0 0 0 0 ∷ node 1 17 4294967289 2 5 0 0 0 1 ∷ node 1 5 0 3 4 0 0 0 2 ∷ node 0 0 0 0 0 0 5 2147483648 3 ∷ node 0 0 0 0 0 0 3 0 3 ∷ node 1 16 10 7 6 0 0 0 2 ∷ node 0 0 0 0 0 0 10 2147483648 3 ∷ node 1 14 4294967286 10 9 0 0 0 3 ∷ node 0 0 0 0 0 0 10 4294967289 1 ∷ node 0 0 0 0 0 0 4 0 4 ∷ node 0 0 0 0 0 0 12 0 4 ∷ []) ++ fill_nodes 0 11 2) (record { symbols = fill_pairs 0 0 49; queue = replicate 14 0 })

abbrev answer_182 : Answer
answer_182 = symbols_are 8 0 0 (pair 0 1 ∷ pair 1 2 ∷ pair 2 3 ∷ pair 3 4 ∷ pair 4 5 ∷ pair 5 6 ∷ pair 6 7 ∷ pair 7 8 ∷ pair 8 9 ∷ pair 9 10 ∷ pair 10 11 ∷ pair 11 12 ∷ pair 12 13 ∷ pair 13 14 ∷ pair 14 15 ∷ pair 15 16 ∷ pair 16 17 ∷ pair 17 18 ∷ pair 18 19 ∷ pair 19 20 ∷ pair 20 21 ∷ pair 21 22 ∷ pair 22 23 ∷ pair 23 24 ∷ pair 24 25 ∷ pair 25 26 ∷ pair 26 27 ∷ pair 27 28 ∷ pair 28 29 ∷ pair 29 30 ∷ pair 30 31 ∷ pair 31 32 ∷ pair 32 33 ∷ pair 33 34 ∷ pair 34 35 ∷ pair 35 36 ∷ pair 36 37 ∷ pair 37 38 ∷ pair 38 39 ∷ pair 39 40 ∷ pair 40 41 ∷ pair 41 42 ∷ pair 42 43 ∷ pair 43 44 ∷ pair 44 45 ∷ pair 45 46 ∷ pair 46 47 ∷ pair 47 48 ∷ pair 48 49 ∷ []) (replicate 14 (0))

-- children numbered otherwise; a split's cost 0; one node more asked for; gt or le at its split's depth; depths handed out to the last that are due; all 0
abbrev job_183 : Job
job_183 = parsing (pair 1 3 ∷ pair 0 2 ∷ pair 1 18 ∷ pair 0 2 ∷ pair 1 0 ∷ pair 2 0 ∷ pair 3 375 ∷ pair 4 0 ∷ pair 5 0 ∷ pair 1 0 ∷ pair 2 1 ∷ pair 3 0 ∷ pair 4 0 ∷ pair 5 0 ∷ pair 1 0 ∷ pair 2 0 ∷ pair 3 247 ∷ pair 4 0 ∷ pair 5 0 ∷ []) (fill_nodes 121584985 0 5)

abbrev answer_183 : Answer
answer_183 = tree_is 0 0 5 (node 1 2 1 1 2 2139095040 0 0 0 ∷ node 1 17 1 3 4 2139095040 0 0 1 ∷ node 0 0 0 0 0 0 0 4294967108 1 ∷ node 0 0 0 0 0 0 1 0 2 ∷ node 0 0 0 0 0 0 0 4294967172 2 ∷ [])

-- nodes one short
abbrev job_184 : Job
job_184 = parsing (pair 1 1 ∷ pair 0 86 ∷ pair 1 5 ∷ pair 0 375 ∷ pair 1 0 ∷ pair 2 0 ∷ pair 3 232 ∷ pair 4 0 ∷ pair 5 0 ∷ pair 1 0 ∷ pair 2 5 ∷ pair 3 0 ∷ pair 4 0 ∷ pair 5 0 ∷ pair 1 0 ∷ pair 2 13 ∷ pair 3 0 ∷ pair 4 0 ∷ pair 5 0 ∷ []) (fill_nodes 0 0 4)

abbrev answer_184 : Answer
answer_184 = tree_is 7 0 0 (node 0 0 0 0 0 0 0 0 0 ∷ node 1 1 1 1 1 1 1 1 1 ∷ node 0 2 2 2 2 2 2 2 2 ∷ node 1 3 3 3 3 3 3 3 3 ∷ [])

-- property 23 refused
abbrev job_185 : Job
job_185 = parsing (pair 1 24 ∷ pair 0 4294967294 ∷ pair 1 0 ∷ pair 2 4 ∷ pair 3 16 ∷ pair 4 0 ∷ pair 5 0 ∷ pair 1 0 ∷ pair 2 6 ∷ pair 3 1793500844 ∷ pair 4 0 ∷ pair 5 0 ∷ []) (fill_nodes 3541172179 0 4)

abbrev answer_185 : Answer
answer_185 = tree_is 0 0 3 (node 1 23 2147483647 1 2 2139095040 0 0 0 ∷ node 0 0 0 0 0 0 4 8 1 ∷ node 0 0 0 0 0 0 6 896750422 1 ∷ node 0 22 3541172182 3541172182 3541172182 319946710 2 3541172182 3541172182 ∷ [])

-- predictor 13 refused; a leaf's cost infinite
abbrev job_186 : Job
job_186 = parsing (pair 1 0 ∷ pair 2 13 ∷ pair 3 40 ∷ pair 4 0 ∷ pair 5 0 ∷ []) (fill_nodes 4294967295 0 8)

abbrev answer_186 : Answer
answer_186 = tree_is 0 0 1 (node 0 0 0 0 0 0 13 20 0 ∷ node 0 0 0 0 0 0 0 0 0 ∷ node 1 1 1 1 1 1 1 1 1 ∷ node 0 2 2 2 2 2 2 2 2 ∷ node 1 3 3 3 3 3 3 3 3 ∷ node 0 4 4 4 4 4 4 4 4 ∷ node 1 5 5 5 5 5 5 5 5 ∷ node 0 6 6 6 6 6 6 6 6 ∷ [])

-- property 24 read; 7 before 11
abbrev job_187 : Job
job_187 = parsing (pair 1 25 ∷ pair 0 1073741824 ∷ pair 1 0 ∷ pair 2 7 ∷ pair 3 2 ∷ pair 4 0 ∷ pair 5 0 ∷ pair 1 0 ∷ pair 2 3 ∷ pair 3 4294967295 ∷ pair 4 0 ∷ pair 5 0 ∷ []) (fill_nodes 1 0 0)

abbrev answer_187 : Answer
answer_187 = tree_is 11 0 0 ([])

-- predictor 14 read
abbrev job_188 : Job
job_188 = parsing (pair 1 20 ∷ pair 0 2 ∷ pair 1 0 ∷ pair 2 14 ∷ pair 3 32766 ∷ pair 4 0 ∷ pair 5 0 ∷ pair 1 0 ∷ pair 2 7 ∷ pair 3 16384 ∷ pair 4 0 ∷ pair 5 0 ∷ []) (fill_nodes 2948970933 0 0)

abbrev answer_188 : Answer
answer_188 = tree_is 11 0 0 ([])

-- a multiplier's logarithm of 1 read
abbrev job_189 : Job
job_189 = parsing (pair 1 14 ∷ pair 0 4294967294 ∷ pair 1 0 ∷ pair 2 0 ∷ pair 3 2147483646 ∷ pair 4 0 ∷ pair 5 0 ∷ pair 1 0 ∷ pair 2 13 ∷ pair 3 0 ∷ pair 4 1 ∷ pair 5 0 ∷ []) (fill_nodes 0 0 6)

abbrev answer_189 : Answer
answer_189 = tree_is 11 0 0 (node 0 0 0 0 0 0 0 0 0 ∷ node 1 1 1 1 1 1 1 1 1 ∷ node 0 2 2 2 2 2 2 2 2 ∷ node 1 3 3 3 3 3 3 3 3 ∷ node 0 4 4 4 4 4 4 4 4 ∷ node 1 5 5 5 5 5 5 5 5 ∷ [])

-- a multiplier's bits of 1 read
abbrev job_190 : Job
job_190 = parsing (pair 1 17 ∷ pair 0 0 ∷ pair 1 0 ∷ pair 2 6 ∷ pair 3 67108862 ∷ pair 4 0 ∷ pair 5 0 ∷ pair 1 0 ∷ pair 2 9 ∷ pair 3 0 ∷ pair 4 0 ∷ pair 5 1 ∷ []) (fill_nodes 1 0 0)

abbrev answer_190 : Answer
answer_190 = tree_is 11 0 0 ([])

-- a property in another context
abbrev job_191 : Job
job_191 = parsing (pair 2 12 ∷ pair 0 536870912 ∷ pair 1 0 ∷ pair 2 2 ∷ pair 3 210 ∷ pair 4 0 ∷ pair 5 0 ∷ pair 1 0 ∷ pair 2 13 ∷ pair 3 62 ∷ pair 4 0 ∷ pair 5 0 ∷ []) (fill_nodes 1 0 6)

abbrev answer_191 : Answer
answer_191 = tree_is 11 0 0 (node 1 1 1 1 1 1 1 1 1 ∷ node 0 2 2 2 2 2 2 2 2 ∷ node 1 3 3 3 3 3 3 3 3 ∷ node 0 4 4 4 4 4 4 4 4 ∷ node 1 5 5 5 5 5 5 5 5 ∷ node 0 6 6 6 6 6 6 6 6 ∷ [])

-- a value in another context
abbrev job_192 : Job
job_192 = parsing (pair 1 6 ∷ pair 1 44 ∷ pair 1 0 ∷ pair 2 2 ∷ pair 3 7158102 ∷ pair 4 0 ∷ pair 5 0 ∷ pair 1 0 ∷ pair 2 0 ∷ pair 3 65534 ∷ pair 4 0 ∷ pair 5 0 ∷ []) (fill_nodes 3776883435 0 3)

abbrev answer_192 : Answer
answer_192 = tree_is 11 0 0 (node 1 3 3776883435 3776883435 3776883435 555657963 3 3776883435 3776883435 ∷ node 0 4 3776883436 3776883436 3776883436 555657964 4 3776883436 3776883436 ∷ node 1 5 3776883437 3776883437 3776883437 555657965 5 3776883437 3776883437 ∷ [])

-- a predictor in another context
abbrev job_193 : Job
job_193 = parsing (pair 1 0 ∷ pair 0 4294967294 ∷ pair 1 0 ∷ pair 2 11 ∷ pair 3 0 ∷ pair 4 0 ∷ pair 5 0 ∷ pair 1 0 ∷ pair 2 7 ∷ pair 3 2 ∷ pair 4 0 ∷ pair 5 0 ∷ []) (fill_nodes 249634509 0 6)

abbrev answer_193 : Answer
answer_193 = tree_is 11 0 0 (node 1 21 249634509 249634509 249634509 249634509 5 249634509 249634509 ∷ node 0 22 249634510 249634510 249634510 249634510 6 249634510 249634510 ∷ node 1 23 249634511 249634511 249634511 249634511 7 249634511 249634511 ∷ node 0 0 249634512 249634512 249634512 249634512 8 249634512 249634512 ∷ node 1 1 249634513 249634513 249634513 249634513 9 249634513 249634513 ∷ node 0 2 249634514 249634514 249634514 249634514 10 249634514 249634514 ∷ [])

-- an offset in another context
abbrev job_194 : Job
job_194 = parsing (pair 1 2 ∷ pair 0 14 ∷ pair 1 0 ∷ pair 2 9 ∷ pair 1 2147483646 ∷ pair 4 0 ∷ pair 5 0 ∷ pair 1 0 ∷ pair 2 9 ∷ pair 3 0 ∷ pair 4 0 ∷ pair 5 0 ∷ []) (fill_nodes 2287180741 0 3)

abbrev answer_194 : Answer
answer_194 = tree_is 11 0 0 (node 1 13 2287180741 2287180741 2287180741 139697093 13 2287180741 2287180741 ∷ node 0 14 2287180742 2287180742 2287180742 139697094 0 2287180742 2287180742 ∷ node 1 15 2287180743 2287180743 2287180743 139697095 1 2287180743 2287180743 ∷ [])

-- a logarithm in another context
abbrev job_195 : Job
job_195 = parsing (pair 1 3 ∷ pair 0 4294967294 ∷ pair 1 0 ∷ pair 2 6 ∷ pair 3 0 ∷ pair 0 0 ∷ pair 5 0 ∷ pair 1 0 ∷ pair 2 7 ∷ pair 3 8388608 ∷ pair 4 0 ∷ pair 5 0 ∷ []) (fill_nodes 2877800853 0 3)

abbrev answer_195 : Answer
answer_195 = tree_is 11 0 0 (node 1 21 2877800853 2877800853 2877800853 730317205 11 2877800853 2877800853 ∷ node 0 22 2877800854 2877800854 2877800854 730317206 12 2877800854 2877800854 ∷ node 1 23 2877800855 2877800855 2877800855 730317207 13 2877800855 2877800855 ∷ [])

-- bits in another context
abbrev job_196 : Job
job_196 = parsing (pair 1 12 ∷ pair 0 2147483647 ∷ pair 1 0 ∷ pair 2 9 ∷ pair 3 30492 ∷ pair 4 0 ∷ pair 0 0 ∷ pair 1 0 ∷ pair 2 4 ∷ pair 3 1048574 ∷ pair 4 0 ∷ pair 5 0 ∷ []) (fill_nodes 77672899 0 3)

abbrev answer_196 : Answer
answer_196 = tree_is 11 0 0 (node 1 19 77672899 77672899 77672899 77672899 3 77672899 77672899 ∷ node 0 20 77672900 77672900 77672900 77672900 4 77672900 77672900 ∷ node 1 21 77672901 77672901 77672901 77672901 5 77672901 77672901 ∷ [])

-- no symbol is a tree
abbrev job_197 : Job
job_197 = parsing ([]) (fill_nodes 2072712597 0 28)

abbrev answer_197 : Answer
answer_197 = tree_is 11 0 0 (node 1 21 2072712597 2072712597 2072712597 998970773 11 2072712597 2072712597 ∷ node 0 22 2072712598 2072712598 2072712598 998970774 12 2072712598 2072712598 ∷ node 1 23 2072712599 2072712599 2072712599 998970775 13 2072712599 2072712599 ∷ node 0 0 2072712600 2072712600 2072712600 998970776 0 2072712600 2072712600 ∷ node 1 1 2072712601 2072712601 2072712601 998970777 1 2072712601 2072712601 ∷ node 0 2 2072712602 2072712602 2072712602 998970778 2 2072712602 2072712602 ∷ node 1 3 2072712603 2072712603 2072712603 998970779 3 2072712603 2072712603 ∷ node 0 4 2072712604 2072712604 2072712604 998970780 4 2072712604 2072712604 ∷ node 1 5 2072712605 2072712605 2072712605 998970781 5 2072712605 2072712605 ∷ node 0 6 2072712606 2072712606 2072712606 998970782 6 2072712606 2072712606 ∷ node 1 7 2072712607 2072712607 2072712607 998970783 7 2072712607 2072712607 ∷ node 0 8 2072712608 2072712608 2072712608 998970784 8 2072712608 2072712608 ∷ node 1 9 2072712609 2072712609 2072712609 998970785 9 2072712609 2072712609 ∷ node 0 10 2072712610 2072712610 2072712610 998970786 10 2072712610 2072712610 ∷ node 1 11 2072712611 2072712611 2072712611 998970787 11 2072712611 2072712611 ∷ node 0 12 2072712612 2072712612 2072712612 998970788 12 2072712612 2072712612 ∷ node 1 13 2072712613 2072712613 2072712613 998970789 13 2072712613 2072712613 ∷ node 0 14 2072712614 2072712614 2072712614 998970790 0 2072712614 2072712614 ∷ node 1 15 2072712615 2072712615 2072712615 998970791 1 2072712615 2072712615 ∷ node 0 16 2072712616 2072712616 2072712616 998970792 2 2072712616 2072712616 ∷ node 1 17 2072712617 2072712617 2072712617 998970793 3 2072712617 2072712617 ∷ node 0 18 2072712618 2072712618 2072712618 998970794 4 2072712618 2072712618 ∷ node 1 19 2072712619 2072712619 2072712619 998970795 5 2072712619 2072712619 ∷ node 0 20 2072712620 2072712620 2072712620 998970796 6 2072712620 2072712620 ∷ node 1 21 2072712621 2072712621 2072712621 998970797 7 2072712621 2072712621 ∷ node 0 22 2072712622 2072712622 2072712622 998970798 8 2072712622 2072712622 ∷ node 1 23 2072712623 2072712623 2072712623 998970799 9 2072712623 2072712623 ∷ node 0 0 2072712624 2072712624 2072712624 998970800 10 2072712624 2072712624 ∷ [])

-- a tree cut short between nodes
abbrev job_198 : Job
job_198 = parsing (pair 1 12 ∷ pair 0 910128836 ∷ []) (fill_nodes 232370347 0 17)

abbrev answer_198 : Answer
answer_198 = tree_is 11 0 0 (node 1 19 232370347 232370347 232370347 232370347 13 232370347 232370347 ∷ node 0 20 232370348 232370348 232370348 232370348 0 232370348 232370348 ∷ node 1 21 232370349 232370349 232370349 232370349 1 232370349 232370349 ∷ node 0 22 232370350 232370350 232370350 232370350 2 232370350 232370350 ∷ node 1 23 232370351 232370351 232370351 232370351 3 232370351 232370351 ∷ node 0 0 232370352 232370352 232370352 232370352 4 232370352 232370352 ∷ node 1 1 232370353 232370353 232370353 232370353 5 232370353 232370353 ∷ node 0 2 232370354 232370354 232370354 232370354 6 232370354 232370354 ∷ node 1 3 232370355 232370355 232370355 232370355 7 232370355 232370355 ∷ node 0 4 232370356 232370356 232370356 232370356 8 232370356 232370356 ∷ node 1 5 232370357 232370357 232370357 232370357 9 232370357 232370357 ∷ node 0 6 232370358 232370358 232370358 232370358 10 232370358 232370358 ∷ node 1 7 232370359 232370359 232370359 232370359 11 232370359 232370359 ∷ node 0 8 232370360 232370360 232370360 232370360 12 232370360 232370360 ∷ node 1 9 232370361 232370361 232370361 232370361 13 232370361 232370361 ∷ node 0 10 232370362 232370362 232370362 232370362 0 232370362 232370362 ∷ node 1 11 232370363 232370363 232370363 232370363 1 232370363 232370363 ∷ [])

-- a leaf cut short
abbrev job_199 : Job
job_199 = parsing (pair 1 21 ∷ pair 0 33554430 ∷ pair 1 0 ∷ pair 2 2 ∷ pair 3 248 ∷ pair 4 0 ∷ pair 5 0 ∷ pair 1 0 ∷ pair 2 12 ∷ pair 3 44 ∷ pair 4 0 ∷ []) (fill_nodes 1554998937 0 6)

abbrev answer_199 : Answer
answer_199 = tree_is 11 0 0 (node 1 9 1554998937 1554998937 1554998937 481257113 9 1554998937 1554998937 ∷ node 0 10 1554998938 1554998938 1554998938 481257114 10 1554998938 1554998938 ∷ node 1 11 1554998939 1554998939 1554998939 481257115 11 1554998939 1554998939 ∷ node 0 12 1554998940 1554998940 1554998940 481257116 12 1554998940 1554998940 ∷ node 1 13 1554998941 1554998941 1554998941 481257117 13 1554998941 1554998941 ∷ node 0 14 1554998942 1554998942 1554998942 481257118 0 1554998942 1554998942 ∷ [])

-- a split cut short
abbrev job_200 : Job
job_200 = parsing (pair 1 20 ∷ []) (fill_nodes 2229699113 0 3)

abbrev answer_200 : Answer
answer_200 = tree_is 11 0 0 (node 1 17 2229699113 2229699113 2229699113 82215465 5 2229699113 2229699113 ∷ node 0 18 2229699114 2229699114 2229699114 82215466 6 2229699114 2229699114 ∷ node 1 19 2229699115 2229699115 2229699115 82215467 7 2229699115 2229699115 ∷ [])

-- one symbol left over
abbrev job_201 : Job
job_201 = parsing (pair 1 21 ∷ pair 0 2147483646 ∷ pair 1 0 ∷ pair 2 4 ∷ pair 3 4294967292 ∷ pair 4 0 ∷ pair 5 0 ∷ pair 1 0 ∷ pair 2 11 ∷ pair 3 31494564 ∷ pair 4 0 ∷ pair 5 0 ∷ pair 5 0 ∷ []) (fill_nodes 0 0 0)

abbrev answer_201 : Answer
answer_201 = tree_is 11 0 0 ([])

-- a growth term regrouped; property 15 never
abbrev lent_202 : Lent singles
lent_202 = lent (4 ∷ 60258 ∷ 0 ∷ 4294963823 ∷ 0 ∷ 0 ∷ 0 ∷ 2 ∷ 4294965273 ∷ 594 ∷ 4294966950 ∷ 32 ∷ 392 ∷ 8 ∷ 0 ∷ 2 ∷ 0 ∷ 4294966796 ∷ 4 ∷ 5 ∷ 1 ∷ 1 ∷ 0 ∷ 2336 ∷ 1 ∷ 19377 ∷ 1 ∷ 4294963823 ∷ 1 ∷ 1 ∷ 1 ∷ 1 ∷ 4294965273 ∷ 594 ∷ 344 ∷ 130 ∷ 392 ∷ 2 ∷ 1 ∷ 1 ∷ 1 ∷ 4294966796 ∷ 1 ∷ 7 ∷ 8 ∷ 8 ∷ 0 ∷ 2336 ∷ 5 ∷ 4294943683 ∷ 1 ∷ 4294963823 ∷ 2 ∷ 2 ∷ 2 ∷ 2 ∷ 4294965273 ∷ 594 ∷ 55 ∷ 19 ∷ 392 ∷ 5 ∷ 2 ∷ 2 ∷ 2 ∷ 4294966796 ∷ 3 ∷ 4 ∷ 6 ∷ 6 ∷ 2 ∷ 2336 ∷ 0 ∷ 243589 ∷ 1 ∷ 4294963823 ∷ 3 ∷ 3 ∷ 3 ∷ 0 ∷ 4294965273 ∷ 594 ∷ 4294967272 ∷ 4294967187 ∷ 392 ∷ 8 ∷ 3 ∷ 4 ∷ 3 ∷ 4294966796 ∷ 2 ∷ 0 ∷ 8 ∷ 8 ∷ 2 ∷ 2336 ∷ 5 ∷ 4294897652 ∷ 1 ∷ 4294963823 ∷ 4 ∷ 4 ∷ 4 ∷ 0 ∷ 4294965273 ∷ 594 ∷ 4294967282 ∷ 35 ∷ 392 ∷ 0 ∷ 4 ∷ 5 ∷ 4 ∷ 4294966796 ∷ 2 ∷ 0 ∷ 2 ∷ 2 ∷ 4 ∷ 2336 ∷ 5 ∷ 4294869144 ∷ 0 ∷ 4294963823 ∷ 5 ∷ 5 ∷ 5 ∷ 2 ∷ 4294965273 ∷ 594 ∷ 146 ∷ 108 ∷ 392 ∷ 3 ∷ 5 ∷ 1 ∷ 5 ∷ 4294966796 ∷ 1 ∷ 7 ∷ 1 ∷ 1 ∷ 7 ∷ 2336 ∷ 5 ∷ 4294963793 ∷ 0 ∷ 4294963823 ∷ 6 ∷ 6 ∷ 6 ∷ 0 ∷ 4294965273 ∷ 594 ∷ 4294967270 ∷ 4294967193 ∷ 392 ∷ 3 ∷ 6 ∷ 2 ∷ 6 ∷ 4294966796 ∷ 2 ∷ 5 ∷ 8 ∷ 8 ∷ 0 ∷ 2336 ∷ 3 ∷ 4294944725 ∷ 0 ∷ 4294963823 ∷ 7 ∷ 7 ∷ 7 ∷ 2 ∷ 4294965273 ∷ 594 ∷ 95 ∷ 0 ∷ 392 ∷ 7 ∷ 7 ∷ 3 ∷ 7 ∷ 4294966796 ∷ 4 ∷ 4 ∷ 7 ∷ 7 ∷ 7 ∷ 2336 ∷ 1 ∷ 40130 ∷ 1 ∷ 4294963823 ∷ 8 ∷ 8 ∷ 8 ∷ 2 ∷ 4294965273 ∷ 594 ∷ 256 ∷ 141 ∷ 392 ∷ 3 ∷ 8 ∷ 1 ∷ 8 ∷ 4294966796 ∷ 1 ∷ 1 ∷ 8 ∷ 8 ∷ 5 ∷ 2336 ∷ 3 ∷ 107395 ∷ 1 ∷ 4294963823 ∷ 9 ∷ 9 ∷ 9 ∷ 1 ∷ 4294965273 ∷ 594 ∷ 138 ∷ 96 ∷ 392 ∷ 4 ∷ 9 ∷ 5 ∷ 9 ∷ 4294966796 ∷ 0 ∷ 4 ∷ 1 ∷ 1 ∷ 2 ∷ 2336 ∷ 2 ∷ 4294889451 ∷ 0 ∷ 4294963823 ∷ 10 ∷ 10 ∷ 9 ∷ 1 ∷ 4294965273 ∷ 594 ∷ 181 ∷ 4294967197 ∷ 392 ∷ 1 ∷ 10 ∷ 5 ∷ 10 ∷ 4294966796 ∷ 3 ∷ 2 ∷ 1 ∷ 0 ∷ 7 ∷ 2336 ∷ 3 ∷ 4258 ∷ 0 ∷ 4294963823 ∷ 11 ∷ 11 ∷ 11 ∷ 1 ∷ 4294965273 ∷ 594 ∷ 81 ∷ 15 ∷ 392 ∷ 2 ∷ 11 ∷ 1 ∷ 11 ∷ 4294966796 ∷ 2 ∷ 0 ∷ 2 ∷ 2 ∷ 2 ∷ 2336 ∷ []) (1 ∷ 1 ∷ 1 ∷ 2 ∷ 0 ∷ 1 ∷ 1 ∷ 1 ∷ 0 ∷ 1 ∷ 2 ∷ 1 ∷ 2 ∷ 2 ∷ 0 ∷ 2 ∷ 0 ∷ 2 ∷ 0 ∷ 0 ∷ 2 ∷ 1 ∷ 0 ∷ 1 ∷ 1 ∷ 1 ∷ 1 ∷ 2 ∷ 1 ∷ 1 ∷ 0 ∷ 1 ∷ 2 ∷ 2 ∷ 2 ∷ 1 ∷ 0 ∷ 2 ∷ 0 ∷ 2 ∷ 2 ∷ 2 ∷ 1 ∷ 2 ∷ 0 ∷ 1 ∷ 0 ∷ 1 ∷ 2 ∷ 1 ∷ 0 ∷ 1 ∷ 2 ∷ 2 ∷ 1 ∷ 0 ∷ 1 ∷ 0 ∷ 2 ∷ 1 ∷ 0 ∷ 2 ∷ 2 ∷ 0 ∷ 2 ∷ 1 ∷ 0 ∷ 0 ∷ 2 ∷ 0 ∷ 2 ∷ 2 ∷ 1 ∷ 1 ∷ 1 ∷ 0 ∷ 1 ∷ 0 ∷ 0 ∷ 2 ∷ 0 ∷ 1 ∷ 2 ∷ 1 ∷ 1 ∷ 1 ∷ 1 ∷ 0 ∷ 1 ∷ 1 ∷ 0 ∷ 1 ∷ 1 ∷ 1 ∷ 2 ∷ 0 ∷ 2 ∷ 2 ∷ 2 ∷ 1 ∷ 0 ∷ 1 ∷ 0 ∷ 0 ∷ 0 ∷ 0 ∷ 1 ∷ 0 ∷ 0 ∷ 2 ∷ 2 ∷ 2 ∷ 2 ∷ 2 ∷ 2 ∷ 0 ∷ 2 ∷ 1 ∷ 2 ∷ 2 ∷ 2 ∷ 2 ∷ 1 ∷ 0 ∷ 0 ∷ 2 ∷ 0 ∷ 2 ∷ 2 ∷ 1 ∷ 1 ∷ 0 ∷ 2 ∷ 2 ∷ 0 ∷ 0 ∷ 0 ∷ 2 ∷ 2 ∷ 2 ∷ 1 ∷ 0 ∷ 2 ∷ 0 ∷ 0 ∷ 0 ∷ 0 ∷ 2 ∷ 2 ∷ 1 ∷ 1 ∷ 2 ∷ 2 ∷ 2 ∷ 0 ∷ 1 ∷ 0 ∷ 1 ∷ 1 ∷ 2 ∷ 2 ∷ 0 ∷ 0 ∷ 2 ∷ 0 ∷ 0 ∷ 1 ∷ 1 ∷ []) (35 ∷ 35 ∷ 34 ∷ 34 ∷ 4294967283 ∷ 4294967284 ∷ 4294967284 ∷ 4294967292 ∷ 4294967287 ∷ 4294967282 ∷ 4294967259 ∷ 4294967282 ∷ []) (([]) ++ fill_nodes 665184333 0 9) 7 6 4264 665184333

abbrev job_202 : Job
job_202 = learning (settings 3 4 2147483648 0 2 2 1 1 512 0 1) (0 ∷ 1098938929 ∷ 1104164471 ∷ 1102308445 ∷ 1095969378 ∷ 1104724561 ∷ 1094785538 ∷ 1099399790 ∷ 1077593208 ∷ 1106112144 ∷ 1103754589 ∷ 1104813981 ∷ 1106909171 ∷ []) lent_202

abbrev answer_202 : Answer
answer_202 = tree 3 2 13864998869303033856 13862631781024399360 (record { props = words (4 ∷ 60258 ∷ 0 ∷ 4294963823 ∷ 0 ∷ 0 ∷ 0 ∷ 2 ∷ 4294965273 ∷ 594 ∷ 4294966950 ∷ 32 ∷ 392 ∷ 8 ∷ 0 ∷ 2 ∷ 0 ∷ 4294966796 ∷ 4 ∷ 5 ∷ 1 ∷ 1 ∷ 0 ∷ 2336 ∷ 2 ∷ 4294889451 ∷ 0 ∷ 4294963823 ∷ 10 ∷ 10 ∷ 9 ∷ 1 ∷ 4294965273 ∷ 594 ∷ 181 ∷ 4294967197 ∷ 392 ∷ 1 ∷ 10 ∷ 5 ∷ 10 ∷ 4294966796 ∷ 3 ∷ 2 ∷ 1 ∷ 0 ∷ 7 ∷ 2336 ∷ 5 ∷ 4294943683 ∷ 1 ∷ 4294963823 ∷ 2 ∷ 2 ∷ 2 ∷ 2 ∷ 4294965273 ∷ 594 ∷ 55 ∷ 19 ∷ 392 ∷ 5 ∷ 2 ∷ 2 ∷ 2 ∷ 4294966796 ∷ 3 ∷ 4 ∷ 6 ∷ 6 ∷ 2 ∷ 2336 ∷ 0 ∷ 243589 ∷ 1 ∷ 4294963823 ∷ 3 ∷ 3 ∷ 3 ∷ 0 ∷ 4294965273 ∷ 594 ∷ 4294967272 ∷ 4294967187 ∷ 392 ∷ 8 ∷ 3 ∷ 4 ∷ 3 ∷ 4294966796 ∷ 2 ∷ 0 ∷ 8 ∷ 8 ∷ 2 ∷ 2336 ∷ 5 ∷ 4294897652 ∷ 1 ∷ 4294963823 ∷ 4 ∷ 4 ∷ 4 ∷ 0 ∷ 4294965273 ∷ 594 ∷ 4294967282 ∷ 35 ∷ 392 ∷ 0 ∷ 4 ∷ 5 ∷ 4 ∷ 4294966796 ∷ 2 ∷ 0 ∷ 2 ∷ 2 ∷ 4 ∷ 2336 ∷ 3 ∷ 107395 ∷ 1 ∷ 4294963823 ∷ 9 ∷ 9 ∷ 9 ∷ 1 ∷ 4294965273 ∷ 594 ∷ 138 ∷ 96 ∷ 392 ∷ 4 ∷ 9 ∷ 5 ∷ 9 ∷ 4294966796 ∷ 0 ∷ 4 ∷ 1 ∷ 1 ∷ 2 ∷ 2336 ∷ 5 ∷ 4294963793 ∷ 0 ∷ 4294963823 ∷ 6 ∷ 6 ∷ 6 ∷ 0 ∷ 4294965273 ∷ 594 ∷ 4294967270 ∷ 4294967193 ∷ 392 ∷ 3 ∷ 6 ∷ 2 ∷ 6 ∷ 4294966796 ∷ 2 ∷ 5 ∷ 8 ∷ 8 ∷ 0 ∷ 2336 ∷ 3 ∷ 4294944725 ∷ 0 ∷ 4294963823 ∷ 7 ∷ 7 ∷ 7 ∷ 2 ∷ 4294965273 ∷ 594 ∷ 95 ∷ 0 ∷ 392 ∷ 7 ∷ 7 ∷ 3 ∷ 7 ∷ 4294966796 ∷ 4 ∷ 4 ∷ 7 ∷ 7 ∷ 7 ∷ 2336 ∷ 1 ∷ 40130 ∷ 1 ∷ 4294963823 ∷ 8 ∷ 8 ∷ 8 ∷ 2 ∷ 4294965273 ∷ 594 ∷ 256 ∷ 141 ∷ 392 ∷ 3 ∷ 8 ∷ 1 ∷ 8 ∷ 4294966796 ∷ 1 ∷ 1 ∷ 8 ∷ 8 ∷ 5 ∷ 2336 ∷ 5 ∷ 4294869144 ∷ 0 ∷ 4294963823 ∷ 5 ∷ 5 ∷ 5 ∷ 2 ∷ 4294965273 ∷ 594 ∷ 146 ∷ 108 ∷ 392 ∷ 3 ∷ 5 ∷ 1 ∷ 5 ∷ 4294966796 ∷ 1 ∷ 7 ∷ 1 ∷ 1 ∷ 7 ∷ 2336 ∷ 3 ∷ 4258 ∷ 0 ∷ 4294963823 ∷ 11 ∷ 11 ∷ 11 ∷ 1 ∷ 4294965273 ∷ 594 ∷ 81 ∷ 15 ∷ 392 ∷ 2 ∷ 11 ∷ 1 ∷ 11 ∷ 4294966796 ∷ 2 ∷ 0 ∷ 2 ∷ 2 ∷ 2 ∷ 2336 ∷ 1 ∷ 19377 ∷ 1 ∷ 4294963823 ∷ 1 ∷ 1 ∷ 1 ∷ 1 ∷ 4294965273 ∷ 594 ∷ 344 ∷ 130 ∷ 392 ∷ 2 ∷ 1 ∷ 1 ∷ 1 ∷ 4294966796 ∷ 1 ∷ 7 ∷ 8 ∷ 8 ∷ 0 ∷ 2336 ∷ []); toks = (1 ∷ 1 ∷ 1 ∷ 2 ∷ 0 ∷ 1 ∷ 1 ∷ 1 ∷ 0 ∷ 1 ∷ 2 ∷ 1 ∷ 2 ∷ 2 ∷ 1 ∷ 0 ∷ 2 ∷ 0 ∷ 0 ∷ 0 ∷ 0 ∷ 2 ∷ 2 ∷ 1 ∷ 1 ∷ 2 ∷ 2 ∷ 2 ∷ 1 ∷ 1 ∷ 0 ∷ 1 ∷ 2 ∷ 2 ∷ 2 ∷ 1 ∷ 0 ∷ 2 ∷ 0 ∷ 2 ∷ 2 ∷ 2 ∷ 1 ∷ 2 ∷ 0 ∷ 1 ∷ 0 ∷ 1 ∷ 2 ∷ 1 ∷ 0 ∷ 1 ∷ 2 ∷ 2 ∷ 1 ∷ 0 ∷ 1 ∷ 0 ∷ 2 ∷ 1 ∷ 0 ∷ 2 ∷ 2 ∷ 0 ∷ 2 ∷ 1 ∷ 0 ∷ 0 ∷ 2 ∷ 0 ∷ 0 ∷ 2 ∷ 2 ∷ 1 ∷ 1 ∷ 0 ∷ 2 ∷ 2 ∷ 0 ∷ 0 ∷ 0 ∷ 2 ∷ 2 ∷ 2 ∷ 1 ∷ 1 ∷ 1 ∷ 0 ∷ 1 ∷ 1 ∷ 0 ∷ 1 ∷ 1 ∷ 1 ∷ 2 ∷ 0 ∷ 2 ∷ 2 ∷ 2 ∷ 1 ∷ 0 ∷ 1 ∷ 0 ∷ 0 ∷ 0 ∷ 0 ∷ 1 ∷ 0 ∷ 0 ∷ 2 ∷ 2 ∷ 2 ∷ 2 ∷ 2 ∷ 2 ∷ 0 ∷ 2 ∷ 1 ∷ 2 ∷ 2 ∷ 2 ∷ 2 ∷ 1 ∷ 0 ∷ 0 ∷ 2 ∷ 2 ∷ 2 ∷ 1 ∷ 1 ∷ 1 ∷ 0 ∷ 1 ∷ 0 ∷ 0 ∷ 2 ∷ 0 ∷ 1 ∷ 2 ∷ 1 ∷ 0 ∷ 1 ∷ 0 ∷ 1 ∷ 1 ∷ 2 ∷ 2 ∷ 0 ∷ 0 ∷ 2 ∷ 0 ∷ 0 ∷ 1 ∷ 1 ∷ 0 ∷ 2 ∷ 0 ∷ 2 ∷ 0 ∷ 0 ∷ 2 ∷ 1 ∷ 0 ∷ 1 ∷ 1 ∷ 1 ∷ 1 ∷ 2 ∷ []); res = words (35 ∷ 4294967259 ∷ 34 ∷ 34 ∷ 4294967283 ∷ 4294967282 ∷ 4294967284 ∷ 4294967292 ∷ 4294967287 ∷ 4294967284 ∷ 4294967282 ∷ 35 ∷ []); nodes = ((node 1 15 1 1 2 1128653302 9 0 0 ∷ node 0 0 0 0 0 3274980807 9 0 1 ∷ node 0 0 0 0 0 3254112900 9 0 1 ∷ []) ++ fill_nodes 665184333 3 6); spans = ((span 0 12 ∷ span 0 8 ∷ span 8 12 ∷ []) ++ fill_spans 665184333 3 4); queue = replicate 6 (no_waiting); counts = replicate 4264 (0) })

-- the higher node number at equal gains and rows
abbrev lent_203 : Lent singles
lent_203 = lent (0 ∷ 0 ∷ 2 ∷ 0 ∷ 0 ∷ 0 ∷ 0 ∷ 0 ∷ 0 ∷ 1 ∷ run 40 0 0 (1 ∷ 0 ∷ 0 ∷ 0 ∷ 0 ∷ 0 ∷ 0 ∷ 1 ∷ run 16 0 0 (3 ∷ run 30 0 0 (1 ∷ run 16 0 0 (2 ∷ run 23 0 0 (3 ∷ 0 ∷ 0 ∷ 0 ∷ 0 ∷ 0 ∷ 0 ∷ 1 ∷ run 16 0 0 (1 ∷ run 21 0 0 ([])))))))) (run 14 5 0 (run 14 0 0 (run 14 3 0 (run 14 6 0 (run 14 1 0 (run 14 4 0 (run 14 7 0 (run 14 2 0 ([]))))))))) ([]) (([]) ++ fill_nodes 1 0 6) 6 3 4544 1

abbrev job_203 : Job
job_203 = learning (settings 8 3 0 0 0 1 2 1 3 0 0) (0 ∷ 0 ∷ 1065353216 ∷ 1069547520 ∷ 1073741824 ∷ 1074790400 ∷ 1075838976 ∷ 1076887552 ∷ 1077936128 ∷ []) lent_203

abbrev answer_203 : Answer
answer_203 = tree 5 3 4622945017495814144 4627448617123184640 (record { props = words (0 ∷ 0 ∷ 3 ∷ run 23 0 0 (3 ∷ 0 ∷ 0 ∷ 0 ∷ 0 ∷ 0 ∷ 0 ∷ 1 ∷ run 16 0 0 (2 ∷ run 23 0 0 (2 ∷ 0 ∷ 0 ∷ 0 ∷ 0 ∷ 0 ∷ 0 ∷ 1 ∷ run 23 0 0 (1 ∷ run 16 0 0 (1 ∷ 0 ∷ 0 ∷ 0 ∷ 0 ∷ 0 ∷ 0 ∷ 1 ∷ run 16 0 0 (1 ∷ run 45 0 0 ([])))))))); toks = (run 14 6 0 (run 14 7 0 (run 14 4 0 (run 14 5 0 (run 14 1 0 (run 14 3 0 (run 14 2 0 (run 14 0 0 ([]))))))))); res = words ([]); nodes = ((node 1 2 1 1 2 1103101952 0 0 0 ∷ node 1 2 2 3 4 1090519040 0 0 1 ∷ node 0 0 0 0 0 1090519040 0 0 1 ∷ node 0 0 0 0 0 1073741824 0 0 2 ∷ node 0 0 0 0 0 1073741824 0 0 2 ∷ []) ++ fill_nodes 1 5 1); spans = ((span 0 8 ∷ span 0 4 ∷ span 4 8 ∷ span 0 2 ∷ span 2 4 ∷ []) ++ fill_spans 1 5 1); queue = replicate 3 (no_waiting); counts = replicate 4544 (0) })

-- the higher node number at equal gains and rows, in a seed
abbrev lent_204 : Lent singles
lent_204 = lent (0 ∷ 0 ∷ 2 ∷ 0 ∷ 0 ∷ 0 ∷ 0 ∷ 0 ∷ 0 ∷ 1 ∷ run 40 0 0 (1 ∷ 0 ∷ 0 ∷ 0 ∷ 0 ∷ 0 ∷ 0 ∷ 1 ∷ run 16 0 0 (3 ∷ run 30 0 0 (1 ∷ run 16 0 0 (2 ∷ run 23 0 0 (3 ∷ 0 ∷ 0 ∷ 0 ∷ 0 ∷ 0 ∷ 0 ∷ 1 ∷ run 16 0 0 (1 ∷ run 21 0 0 ([])))))))) (run 14 5 0 (run 14 0 0 (run 14 3 0 (run 14 6 0 (run 14 1 0 (run 14 4 0 (run 14 7 0 (run 14 2 0 ([]))))))))) ([]) ((node 1 2 1 1 2 0 0 0 0 ∷ node 0 0 0 0 0 0 1 5 1 ∷ node 0 0 0 0 0 0 0 0 1 ∷ []) ++ fill_nodes 1 3 2) 5 3 4544 1

abbrev job_204 : Job
job_204 = deepening (settings 8 3 0 0 0 1 2 1 3 0 0) (0 ∷ 0 ∷ 1065353216 ∷ 1069547520 ∷ 1073741824 ∷ 1074790400 ∷ 1075838976 ∷ 1076887552 ∷ 1077936128 ∷ []) 3 lent_204

abbrev answer_204 : Answer
answer_204 = tree 5 3 4622945017495814144 4627448617123184640 (record { props = words (0 ∷ 0 ∷ 3 ∷ 0 ∷ 0 ∷ 0 ∷ 0 ∷ 0 ∷ 0 ∷ 1 ∷ run 16 0 0 (3 ∷ run 23 0 0 (2 ∷ run 23 0 0 (2 ∷ 0 ∷ 0 ∷ 0 ∷ 0 ∷ 0 ∷ 0 ∷ 1 ∷ run 40 0 0 (1 ∷ 0 ∷ 0 ∷ 0 ∷ 0 ∷ 0 ∷ 0 ∷ 1 ∷ run 23 0 0 (1 ∷ run 16 0 0 (1 ∷ run 21 0 0 ([])))))))); toks = (run 14 7 0 (run 14 6 0 (run 14 4 0 (run 14 5 0 (run 14 0 0 (run 14 3 0 (run 14 1 0 (run 14 2 0 ([]))))))))); res = words ([]); nodes = ((node 1 2 1 1 2 2139095040 0 0 0 ∷ node 1 2 2 3 4 1090519040 0 0 1 ∷ node 0 0 0 0 0 1090519040 0 0 1 ∷ node 0 0 0 0 0 1073741824 0 0 2 ∷ node 0 0 0 0 0 1073741824 0 0 2 ∷ []) ++ fill_nodes 1 5 0); spans = ((span 0 0 ∷ span 0 4 ∷ span 4 8 ∷ span 0 2 ∷ span 2 4 ∷ []) ++ fill_spans 1 5 0); queue = replicate 3 (no_waiting); counts = replicate 4544 (0) })

-- folding only on strictly less; pruning without the price
abbrev lent_205 : Lent singles
lent_205 = lent (run 26 0 0 (1 ∷ run 21 0 0 ([]))) (run 14 1 0 (run 14 2 0 ([]))) ([]) (([]) ++ fill_nodes 1 0 4) 4 2 4320 1

abbrev job_205 : Job
job_205 = learning (settings 4 2 0 1073741824 0 1 2 1 3 0 0) (0 ∷ 0 ∷ 1065353216 ∷ []) lent_205

abbrev answer_205 : Answer
answer_205 = tree 1 1 4611686018427387904 4611686018427387904 (record { props = words (0 ∷ 0 ∷ 1 ∷ run 45 0 0 ([])); toks = (run 14 2 0 (run 14 1 0 ([]))); res = words ([]); nodes = ((node 0 0 0 0 0 1073741824 0 0 0 ∷ node 0 0 0 0 0 0 0 0 0 ∷ node 0 0 0 0 0 0 0 0 0 ∷ []) ++ fill_nodes 1 3 1); spans = ((span 0 2 ∷ span 0 0 ∷ span 0 0 ∷ []) ++ fill_spans 1 3 1); queue = replicate 2 (no_waiting); counts = replicate 4320 (0) })

-- the price in the estimated bits
abbrev lent_206 : Lent singles
lent_206 = lent (run 26 0 0 (1 ∷ run 21 0 0 ([]))) (run 14 1 0 (run 14 2 0 ([]))) ([]) (([]) ++ fill_nodes 1 0 4) 4 2 4320 1

abbrev job_206 : Job
job_206 = learning (settings 4 2 0 1071644672 0 1 2 1 3 0 0) (0 ∷ 0 ∷ 1065353216 ∷ []) lent_206

abbrev answer_206 : Answer
answer_206 = tree 3 2 0 4611686018427387904 (record { props = words (0 ∷ 0 ∷ 1 ∷ run 45 0 0 ([])); toks = (run 14 2 0 (run 14 1 0 ([]))); res = words ([]); nodes = ((node 1 2 0 1 2 1073741824 0 0 0 ∷ node 0 0 0 0 0 0 0 0 1 ∷ node 0 0 0 0 0 0 0 0 1 ∷ []) ++ fill_nodes 1 3 1); spans = ((span 0 2 ∷ span 0 1 ∷ span 1 2 ∷ []) ++ fill_spans 1 3 1); queue = replicate 2 (no_waiting); counts = replicate 4320 (0) })

-- no settling
abbrev lent_207 : Lent singles
lent_207 = lent (run 27 0 0 (1 ∷ run 47 0 0 (1 ∷ run 47 0 0 (1 ∷ run 20 0 0 ([]))))) (run 84 9 0 ([])) (3 ∷ 40 ∷ 3 ∷ 40 ∷ 3 ∷ 41 ∷ []) (([]) ++ fill_nodes 1 0 6) 6 3 11264 1

abbrev job_207 : Job
job_207 = learning (settings 128 3 0 1148846080 0 1 2 1 1 1 1) (0 ∷ 0 ∷ 1065353216 ∷ 1069547520 ∷ 1073741824 ∷ 1074790400 ∷ 1075838976 ∷ []) lent_207

abbrev answer_207 : Answer
answer_207 = tree 1 1 4625759767262920704 0 (record { props = words (0 ∷ 0 ∷ 0 ∷ 1 ∷ run 23 0 0 (1 ∷ run 23 0 0 (1 ∷ run 92 0 0 ([])))); toks = (24 ∷ run 13 9 0 (24 ∷ run 13 9 0 (24 ∷ run 13 9 0 (0 ∷ run 13 9 0 (0 ∷ run 13 9 0 (0 ∷ run 13 9 0 ([]))))))); res = words (41 ∷ 40 ∷ 40 ∷ 3 ∷ 3 ∷ 3 ∷ []); nodes = ((node 0 0 0 0 0 1099956224 0 3 0 ∷ node 0 0 0 0 0 0 0 0 0 ∷ node 0 0 0 0 0 0 0 0 0 ∷ []) ++ fill_nodes 1 3 3); spans = ((span 0 6 ∷ span 0 0 ∷ span 0 0 ∷ []) ++ fill_spans 1 3 3); queue = replicate 3 (no_waiting); counts = replicate 11264 (0) })

-- settling always
abbrev lent_208 : Lent singles
lent_208 = lent (run 27 0 0 (1 ∷ run 47 0 0 (1 ∷ run 47 0 0 (1 ∷ run 20 0 0 ([]))))) (run 84 9 0 ([])) (3 ∷ 40 ∷ 3 ∷ 40 ∷ 3 ∷ 41 ∷ []) (([]) ++ fill_nodes 1 0 6) 6 3 11264 1

abbrev job_208 : Job
job_208 = learning (settings 128 3 0 1148846080 0 1 2 1 1 1 0) (0 ∷ 0 ∷ 1065353216 ∷ 1069547520 ∷ 1073741824 ∷ 1074790400 ∷ 1075838976 ∷ []) lent_208

abbrev answer_208 : Answer
answer_208 = tree 1 1 4625759767262920704 0 (record { props = words (0 ∷ 0 ∷ 0 ∷ 1 ∷ run 23 0 0 (1 ∷ run 23 0 0 (1 ∷ run 92 0 0 ([])))); toks = (2 ∷ run 13 9 0 (0 ∷ run 13 9 0 (0 ∷ run 13 9 0 (0 ∷ run 13 9 0 (0 ∷ run 13 9 0 (0 ∷ run 13 9 0 ([]))))))); res = words (41 ∷ 40 ∷ 40 ∷ 3 ∷ 3 ∷ 3 ∷ []); nodes = ((node 0 0 0 0 0 1099956224 0 3 0 ∷ node 0 0 0 0 0 0 0 0 0 ∷ node 0 0 0 0 0 0 0 0 0 ∷ []) ++ fill_nodes 1 3 3); spans = ((span 0 6 ∷ span 0 0 ∷ span 0 0 ∷ []) ++ fill_spans 1 3 3); queue = replicate 3 (no_waiting); counts = replicate 11264 (0) })

-- a mode of residuals that spread over 4,098 values
abbrev lent_209 : Lent singles
lent_209 = lent (run 27 0 0 (1 ∷ run 47 0 0 (1 ∷ run 47 0 0 (1 ∷ run 20 0 0 ([]))))) (run 84 9 0 ([])) (4294967289 ∷ 4090 ∷ 4294967289 ∷ 4090 ∷ 4294967289 ∷ 4090 ∷ []) (([]) ++ fill_nodes 1 0 6) 6 3 11264 1

abbrev job_209 : Job
job_209 = learning (settings 128 3 0 0 0 1 2 1 1 1 0) (0 ∷ 0 ∷ 1065353216 ∷ 1069547520 ∷ 1073741824 ∷ 1074790400 ∷ 1075838976 ∷ []) lent_209

abbrev answer_209 : Answer
answer_209 = tree 3 2 0 0 (record { props = words (0 ∷ 0 ∷ 0 ∷ 1 ∷ run 23 0 0 (1 ∷ run 23 0 0 (1 ∷ run 92 0 0 ([])))); toks = (0 ∷ run 13 9 0 (0 ∷ run 13 9 0 (0 ∷ run 13 9 0 (0 ∷ run 13 9 0 (0 ∷ run 13 9 0 (0 ∷ run 13 9 0 ([]))))))); res = words (4090 ∷ 4090 ∷ 4090 ∷ 4294967289 ∷ 4294967289 ∷ 4294967289 ∷ []); nodes = ((node 1 3 0 1 2 1108344832 0 0 0 ∷ node 0 0 0 0 0 0 0 4090 1 ∷ node 0 0 0 0 0 0 0 4294967289 1 ∷ []) ++ fill_nodes 1 3 3); spans = ((span 0 6 ∷ span 0 3 ∷ span 3 6 ∷ []) ++ fill_spans 1 3 3); queue = replicate 3 (no_waiting); counts = replicate 11264 (0) })

-- an empty leaf's offset lost, its cost kept
abbrev lent_210 : Lent singles
lent_210 = lent (run 26 0 0 (1 ∷ run 23 0 0 (1 ∷ 0 ∷ 0 ∷ 0 ∷ 0 ∷ 0 ∷ 0 ∷ 1 ∷ run 14 0 0 ([])))) (run 14 1 0 (run 14 2 0 (run 14 3 0 ([])))) ([]) ((node 1 2 5 1 2 0 0 0 0 ∷ node 0 200 4294967295 9 9 77 12 4294967291 1 ∷ node 0 0 0 0 0 0 3 3 1 ∷ []) ++ fill_nodes 1 3 4) 7 4 4544 1

abbrev job_210 : Job
job_210 = deepening (settings 8 4 0 0 0 1 2 1 3 0 0) (0 ∷ 0 ∷ 1065353216 ∷ 1069547520 ∷ []) 3 lent_210

abbrev answer_210 : Answer
answer_210 = tree 7 4 0 4616752568008179712 (record { props = words (0 ∷ 0 ∷ 1 ∷ 0 ∷ 0 ∷ 0 ∷ 0 ∷ 0 ∷ 0 ∷ 1 ∷ run 16 0 0 (1 ∷ run 45 0 0 ([]))); toks = (run 14 3 0 (run 14 2 0 (run 14 1 0 ([])))); res = words ([]); nodes = ((node 1 2 5 1 2 2139095040 0 0 0 ∷ node 0 0 0 0 0 0 12 4294967291 1 ∷ node 1 2 0 3 4 1083179008 0 0 1 ∷ node 1 9 0 5 6 1073741824 0 0 2 ∷ node 0 0 0 0 0 0 0 0 2 ∷ node 0 0 0 0 0 0 0 0 3 ∷ node 0 0 0 0 0 0 0 0 3 ∷ []) ++ fill_nodes 1 7 0); spans = ((span 0 0 ∷ span 0 0 ∷ span 0 3 ∷ span 0 2 ∷ span 2 3 ∷ span 0 1 ∷ span 1 2 ∷ []) ++ fill_spans 1 7 0); queue = replicate 4 (no_waiting); counts = replicate 4544 (0) })

-- extra bits of large tokens cut
abbrev lent_211 : Lent singles
lent_211 = lent (run 50 0 0 (1 ∷ run 23 0 0 (1 ∷ 0 ∷ 0 ∷ 0 ∷ 0 ∷ 0 ∷ 0 ∷ 1 ∷ run 14 0 0 ([])))) (run 14 255 0 (run 14 254 0 (run 14 128 0 (run 14 3 0 ([]))))) ([]) (([]) ++ fill_nodes 1 0 4) 4 2 18432 1

abbrev job_211 : Job
job_211 = learning (settings 256 2 0 0 0 1 2 1 3 0 0) (0 ∷ 0 ∷ 1065353216 ∷ 1069547520 ∷ 1073741824 ∷ []) lent_211

abbrev answer_211 : Answer
answer_211 = tree 3 2 4639692778610098176 4639833516098453504 (record { props = words (0 ∷ 0 ∷ 1 ∷ 0 ∷ 0 ∷ 0 ∷ 0 ∷ 0 ∷ 0 ∷ 1 ∷ run 16 0 0 (1 ∷ run 69 0 0 ([]))); toks = (run 14 3 0 (run 14 128 0 (run 14 254 0 (run 14 255 0 ([]))))); res = words ([]); nodes = ((node 1 2 0 1 2 1126170624 0 0 0 ∷ node 0 0 0 0 0 1107296256 0 0 1 ∷ node 0 0 0 0 0 1123549184 0 0 1 ∷ []) ++ fill_nodes 1 3 1); spans = ((span 0 4 ∷ span 0 2 ∷ span 2 4 ∷ []) ++ fill_spans 1 3 1); queue = replicate 2 (no_waiting); counts = replicate 18432 (0) })

-- another bad row named
abbrev lent_212 : Lent singles
lent_212 = lent (run 50 0 0 (1 ∷ run 23 0 0 (1 ∷ 0 ∷ 0 ∷ 0 ∷ 0 ∷ 0 ∷ 0 ∷ 1 ∷ run 14 0 0 ([])))) (run 14 1 0 (run 14 3 0 (run 13 0 0 (7 ∷ 4 ∷ run 13 2 0 ([]))))) ([]) (([]) ++ fill_nodes 1 0 4) 4 2 4320 1

abbrev job_212 : Job
job_212 = learning (settings 4 2 0 0 0 1 2 1 3 0 0) (0 ∷ 0 ∷ 1065353216 ∷ 1069547520 ∷ 1073741824 ∷ []) lent_212

abbrev answer_212 : Answer
answer_212 = refused_tree 4 2 (record { props = words (run 50 0 0 (1 ∷ run 23 0 0 (1 ∷ 0 ∷ 0 ∷ 0 ∷ 0 ∷ 0 ∷ 0 ∷ 1 ∷ run 14 0 0 ([])))); toks = (run 14 1 0 (run 14 3 0 (run 13 0 0 (7 ∷ 4 ∷ run 13 2 0 ([]))))); res = words ([]); nodes = (([]) ++ fill_nodes 1 0 4); spans = (([]) ++ fill_spans 1 0 4); queue = replicate 2 (fill_waiting 1); counts = replicate 4320 (1) })

-- 6 before 4
abbrev lent_213 : Lent singles
lent_213 = lent (run 48 0 0 ([])) (run 14 1 0 (run 14 4 0 ([]))) ([]) (([]) ++ fill_nodes 1 0 4) 4 2 4320 1

abbrev job_213 : Job
job_213 = learning (settings 4 2 0 0 0 1 2 1 3 0 0) (0 ∷ 2143289344 ∷ 1065353216 ∷ []) lent_213

abbrev answer_213 : Answer
answer_213 = refused_tree 4 1 (record { props = words (run 48 0 0 ([])); toks = (run 14 1 0 (run 14 4 0 ([]))); res = words ([]); nodes = (([]) ++ fill_nodes 1 0 4); spans = (([]) ++ fill_spans 1 0 4); queue = replicate 2 (fill_waiting 1); counts = replicate 4320 (1) })

-- predictor 0 where there are no rows
abbrev lent_214 : Lent singles
lent_214 = lent ([]) ([]) ([]) (([]) ++ fill_nodes 1 0 2) 2 1 4152 1

abbrev job_214 : Job
job_214 = learning (settings 1 1 0 0 0 1 2 1 32 0 0) (0 ∷ []) lent_214

abbrev answer_214 : Answer
answer_214 = tree 1 1 0 0 (record { props = words ([]); toks = ([]); res = words ([]); nodes = ((node 0 0 0 0 0 0 5 0 0 ∷ []) ++ fill_nodes 1 1 1); spans = ((span 0 0 ∷ []) ++ fill_spans 1 1 1); queue = replicate 1 (no_waiting); counts = replicate 4152 (0) })

-- property 15 before 16 to 23, or first of all; 16 to 23 never; 14 or 23 never
abbrev lent_215 : Lent singles
lent_215 = lent (1 ∷ run 37 0 0 (1 ∷ run 25 0 0 (1 ∷ run 30 0 0 (1 ∷ run 15 0 0 (1 ∷ run 32 0 0 ([])))))) (run 14 0 0 (run 14 1 0 (run 14 2 0 (run 14 3 0 (run 14 4 0 (run 14 5 0 ([]))))))) ([]) (([]) ++ fill_nodes 1 0 12) 12 6 4432 1

abbrev job_215 : Job
job_215 = learning (settings 6 6 0 0 0 1 2 1 1 0 0) (0 ∷ 0 ∷ 1065353216 ∷ 1069547520 ∷ 1073741824 ∷ 1074790400 ∷ 1075838976 ∷ []) lent_215

abbrev answer_215 : Answer
answer_215 = tree 11 6 0 4622522805030748160 (record { props = words (1 ∷ run 37 0 0 (1 ∷ run 25 0 0 (1 ∷ run 30 0 0 (1 ∷ run 15 0 0 (1 ∷ run 32 0 0 ([])))))); toks = (run 14 0 0 (run 14 1 0 (run 14 2 0 (run 14 3 0 (run 14 4 0 (run 14 5 0 ([]))))))); res = words ([]); nodes = ((node 1 0 0 1 2 1097859072 0 0 0 ∷ node 0 0 0 0 0 0 0 0 1 ∷ node 1 14 0 3 4 1093926912 0 0 1 ∷ node 0 0 0 0 0 0 0 0 2 ∷ node 1 16 0 5 6 1090519040 0 0 2 ∷ node 0 0 0 0 0 0 0 0 3 ∷ node 1 23 0 7 8 1083179008 0 0 3 ∷ node 0 0 0 0 0 0 0 0 4 ∷ node 1 15 0 9 10 1073741824 0 0 4 ∷ node 0 0 0 0 0 0 0 0 5 ∷ node 0 0 0 0 0 0 0 0 5 ∷ []) ++ fill_nodes 1 11 1); spans = ((span 0 6 ∷ span 0 1 ∷ span 1 6 ∷ span 1 2 ∷ span 2 6 ∷ span 2 3 ∷ span 3 6 ∷ span 3 4 ∷ span 4 6 ∷ span 4 5 ∷ span 5 6 ∷ []) ++ fill_spans 1 11 1); queue = replicate 6 (no_waiting); counts = replicate 4432 (0) })

-- weighted ignored, for predictor 6 or for property 15
abbrev lent_216 : Lent singles
lent_216 = lent (run 39 0 0 (1 ∷ run 8 0 0 ([]))) (run 14 0 0 (1 ∷ run 13 0 0 ([]))) ([]) (([]) ++ fill_nodes 1 0 4) 4 2 4208 1

abbrev job_216 : Job
job_216 = learning (settings 2 2 0 0 0 1 2 0 65 0 0) (0 ∷ 0 ∷ 1065353216 ∷ []) lent_216

abbrev answer_216 : Answer
answer_216 = tree 1 1 4611686018427387904 4611686018427387904 (record { props = words (run 39 0 0 (1 ∷ run 8 0 0 ([]))); toks = (run 14 0 0 (1 ∷ run 13 0 0 ([]))); res = words ([]); nodes = ((node 0 0 0 0 0 1073741824 0 0 0 ∷ []) ++ fill_nodes 1 1 3); spans = ((span 0 2 ∷ []) ++ fill_spans 1 1 3); queue = replicate 2 (no_waiting); counts = replicate 4208 (0) })

-- rows > smallest node; smallest node not asked; the last of the lowest thresholds
abbrev lent_217 : Lent singles
lent_217 = lent (run 26 0 0 (1 ∷ run 23 0 0 (2 ∷ run 21 0 0 ([])))) (run 14 0 0 (run 14 1 0 (run 14 2 0 ([])))) ([]) (([]) ++ fill_nodes 1 0 6) 6 3 4264 1

abbrev job_217 : Job
job_217 = learning (settings 3 3 0 0 3 1 2 1 1 0 0) (0 ∷ 0 ∷ 1065353216 ∷ 1069547520 ∷ []) lent_217

abbrev answer_217 : Answer
answer_217 = tree 3 2 4611686018427387904 4616752568008179712 (record { props = words (0 ∷ 0 ∷ 2 ∷ run 23 0 0 (1 ∷ run 45 0 0 ([]))); toks = (run 14 2 0 (run 14 1 0 (run 14 0 0 ([])))); res = words ([]); nodes = ((node 1 2 0 1 2 1083179008 0 0 0 ∷ node 0 0 0 0 0 1073741824 0 0 1 ∷ node 0 0 0 0 0 0 0 0 1 ∷ []) ++ fill_nodes 1 3 3); spans = ((span 0 3 ∷ span 0 2 ∷ span 2 3 ∷ []) ++ fill_spans 1 3 3); queue = replicate 3 (no_waiting); counts = replicate 4264 (0) })

-- scored if cost > 0, or if cost >= split cost
abbrev lent_218 : Lent singles
lent_218 = lent (run 50 0 0 (1 ∷ run 21 0 0 ([]))) (run 14 0 0 (run 14 1 0 (run 14 0 0 ([])))) ([]) (([]) ++ fill_nodes 1 0 6) 6 3 4264 1

abbrev job_218 : Job
job_218 = learning (settings 3 3 1073741824 0 0 1 2 1 1 0 0) (0 ∷ 1065353216 ∷ 0 ∷ 1065353216 ∷ []) lent_218

abbrev answer_218 : Answer
answer_218 = tree 1 1 4611686018427387904 4611686018427387904 (record { props = words (run 50 0 0 (1 ∷ run 21 0 0 ([]))); toks = (run 14 0 0 (run 14 1 0 (run 14 0 0 ([])))); res = words ([]); nodes = ((node 0 0 0 0 0 1073741824 0 0 0 ∷ []) ++ fill_nodes 1 1 5); spans = ((span 0 3 ∷ []) ++ fill_spans 1 1 5); queue = replicate 3 (no_waiting); counts = replicate 4264 (0) })

-- gain without split cost; offered if gain >= 0
abbrev lent_219 : Lent singles
lent_219 = lent (run 26 0 0 (1 ∷ run 23 0 0 (2 ∷ run 21 0 0 ([])))) (run 14 0 0 (run 14 1 0 (run 14 2 0 ([])))) ([]) (([]) ++ fill_nodes 1 0 6) 6 3 4264 1

abbrev job_219 : Job
job_219 = learning (settings 3 3 1075838976 0 0 1 2 1 1 0 0) (0 ∷ 0 ∷ 1065353216 ∷ 1069547520 ∷ []) lent_219

abbrev answer_219 : Answer
answer_219 = tree 1 1 4616752568008179712 4616752568008179712 (record { props = words (run 26 0 0 (1 ∷ run 23 0 0 (2 ∷ run 21 0 0 ([])))); toks = (run 14 0 0 (run 14 1 0 (run 14 2 0 ([])))); res = words ([]); nodes = ((node 0 0 0 0 0 1083179008 0 0 0 ∷ []) ++ fill_nodes 1 1 5); spans = ((span 0 3 ∷ []) ++ fill_spans 1 1 5); queue = replicate 3 (no_waiting); counts = replicate 4264 (0) })

-- gain = cost - (score + split cost), or (cost - split cost) - score; extra bits first
abbrev lent_220 : Lent singles
lent_220 = lent (run 26 0 0 (1 ∷ run 21 0 0 ([]))) (run 14 16 0 (run 14 17 0 ([]))) ([]) (([]) ++ fill_nodes 1 0 4) 4 2 5104 1

abbrev job_220 : Job
job_220 = learning (settings 18 2 884998144 0 0 1 2 1 1 0 0) (0 ∷ 0 ∷ 880803840 ∷ []) lent_220

abbrev answer_220 : Answer
answer_220 = tree 3 2 4616189618054758400 4616189618591629312 (record { props = words (0 ∷ 0 ∷ 1 ∷ run 45 0 0 ([])); toks = (run 14 17 0 (run 14 16 0 ([]))); res = words ([]); nodes = ((node 1 2 0 1 2 1082130433 0 0 0 ∷ node 0 0 0 0 0 1073741824 0 0 1 ∷ node 0 0 0 0 0 1073741824 0 0 1 ∷ []) ++ fill_nodes 1 3 1); spans = ((span 0 2 ∷ span 0 1 ∷ span 1 2 ∷ []) ++ fill_spans 1 3 1); queue = replicate 2 (no_waiting); counts = replicate 5104 (0) })

-- all side predictors; only one; the higher number at a tie; the last of equal properties
abbrev lent_221 : Lent singles
lent_221 = lent (run 33 0 0 (1 ∷ 1 ∷ run 15 0 0 (1 ∷ 0 ∷ 0 ∷ 0 ∷ 0 ∷ 0 ∷ 0 ∷ 0 ∷ 1 ∷ run 15 0 0 (1 ∷ 0 ∷ 0 ∷ 0 ∷ 0 ∷ 0 ∷ 0 ∷ 1 ∷ run 14 0 0 ([]))))) (run 14 0 0 (1 ∷ 1 ∷ run 12 0 0 (1 ∷ 0 ∷ 1 ∷ run 12 0 0 (1 ∷ 1 ∷ run 11 0 0 ([]))))) ([]) (([]) ++ fill_nodes 1 0 4) 4 2 4208 1

abbrev job_221 : Job
job_221 = learning (settings 2 2 0 0 0 2 2 1 7 0 0) (0 ∷ 0 ∷ 1065353216 ∷ 1069547520 ∷ 1073741824 ∷ []) lent_221

abbrev answer_221 : Answer
answer_221 = tree 3 2 0 4616189618054758400 (record { props = words (0 ∷ 0 ∷ 1 ∷ 0 ∷ 0 ∷ 0 ∷ 0 ∷ 0 ∷ 0 ∷ 1 ∷ run 23 0 0 (1 ∷ 1 ∷ run 15 0 0 (1 ∷ 0 ∷ 0 ∷ 0 ∷ 0 ∷ 0 ∷ 0 ∷ 0 ∷ 1 ∷ run 37 0 0 ([])))); toks = (0 ∷ 1 ∷ 1 ∷ run 11 0 0 (1 ∷ 1 ∷ run 12 0 0 (1 ∷ 0 ∷ 1 ∷ run 25 0 0 ([])))); res = words ([]); nodes = ((node 1 9 0 1 2 1082130432 0 0 0 ∷ node 0 0 0 0 0 0 1 0 1 ∷ node 0 0 0 0 0 0 1 0 1 ∷ []) ++ fill_nodes 1 3 1); spans = ((span 0 4 ∷ span 0 2 ∷ span 2 4 ∷ []) ++ fill_spans 1 3 1); queue = replicate 2 (no_waiting); counts = replicate 4208 (0) })

-- no side predictor for 0
abbrev lent_222 : Lent singles
lent_222 = lent (run 33 0 0 (1 ∷ 1 ∷ run 15 0 0 (1 ∷ 0 ∷ 0 ∷ 0 ∷ 0 ∷ 0 ∷ 0 ∷ 0 ∷ 1 ∷ run 15 0 0 (1 ∷ 0 ∷ 0 ∷ 0 ∷ 0 ∷ 0 ∷ 0 ∷ 1 ∷ run 14 0 0 ([]))))) (run 14 0 0 (1 ∷ 1 ∷ run 12 0 0 (1 ∷ 0 ∷ 1 ∷ run 12 0 0 (1 ∷ 1 ∷ run 11 0 0 ([]))))) ([]) (([]) ++ fill_nodes 1 0 4) 4 2 4208 1

abbrev job_222 : Job
job_222 = learning (settings 2 2 0 0 0 0 2 1 7 0 0) (0 ∷ 0 ∷ 1065353216 ∷ 1069547520 ∷ 1073741824 ∷ []) lent_222

abbrev answer_222 : Answer
answer_222 = tree 3 2 0 4616189618054758400 (record { props = words (0 ∷ 0 ∷ 1 ∷ 0 ∷ 0 ∷ 0 ∷ 0 ∷ 0 ∷ 0 ∷ 0 ∷ 1 ∷ run 22 0 0 (1 ∷ 1 ∷ run 15 0 0 (1 ∷ 0 ∷ 0 ∷ 0 ∷ 0 ∷ 0 ∷ 0 ∷ 1 ∷ run 38 0 0 ([])))); toks = (1 ∷ 0 ∷ 1 ∷ run 11 0 0 (1 ∷ 1 ∷ run 13 0 0 (1 ∷ 1 ∷ run 25 0 0 ([])))); res = words ([]); nodes = ((node 1 10 0 1 2 1082130432 0 0 0 ∷ node 0 0 0 0 0 0 0 0 1 ∷ node 0 0 0 0 0 0 0 0 1 ∷ []) ++ fill_nodes 1 3 1); spans = ((span 0 4 ∷ span 0 2 ∷ span 2 4 ∷ []) ++ fill_spans 1 3 1); queue = replicate 2 (no_waiting); counts = replicate 4208 (0) })

-- the mode as offset beside any predictor
abbrev lent_223 : Lent singles
lent_223 = lent (run 24 0 0 ([])) (run 14 100 0 ([])) (3 ∷ []) (([]) ++ fill_nodes 1 0 2) 2 1 11264 1

abbrev job_223 : Job
job_223 = learning (settings 128 1 0 0 0 1 2 1 2 1 0) (0 ∷ 0 ∷ []) lent_223

abbrev answer_223 : Answer
answer_223 = tree 1 1 4627167142146473984 4627167142146473984 (record { props = words (run 24 0 0 ([])); toks = (0 ∷ run 13 100 0 ([])); res = words (3 ∷ []); nodes = ((node 0 0 0 0 0 1102577664 1 0 0 ∷ []) ++ fill_nodes 1 1 1); spans = ((span 0 1 ∷ []) ++ fill_spans 1 1 1); queue = replicate 1 (no_waiting); counts = replicate 11264 (0) })

-- flat bits of deepening after the mode step
abbrev lent_224 : Lent singles
lent_224 = lent (run 24 0 0 ([])) (run 14 100 0 ([])) (3 ∷ []) ((node 0 0 0 0 0 0 0 0 0 ∷ []) ++ fill_nodes 1 1 0) 1 1 11264 1

abbrev job_224 : Job
job_224 = deepening (settings 128 1 0 0 0 1 2 1 1 1 0) (0 ∷ 0 ∷ []) 1 lent_224

abbrev answer_224 : Answer
answer_224 = tree 1 1 0 4627167142146473984 (record { props = words (run 24 0 0 ([])); toks = (0 ∷ run 13 100 0 ([])); res = words (3 ∷ []); nodes = ((node 0 0 0 0 0 0 0 3 0 ∷ []) ++ fill_nodes 1 1 0); spans = ((span 0 1 ∷ []) ++ fill_spans 1 1 0); queue = replicate 1 (no_waiting); counts = replicate 11264 (0) })

-- property 0 below 0 held to 3, above 3 not held
abbrev lent_225 : Lent singles
lent_225 = lent (4294967295 ∷ run 23 0 0 (3 ∷ run 23 0 0 (7 ∷ run 23 0 0 ([])))) (run 14 0 0 (run 14 1 0 (run 14 0 0 ([])))) ([]) (([]) ++ fill_nodes 1 0 2) 2 1 4264 1

abbrev job_225 : Job
job_225 = learning (settings 3 1 0 0 0 1 2 1 1 0 0) (0 ∷ 0 ∷ 1065353216 ∷ 1069547520 ∷ []) lent_225

abbrev answer_225 : Answer
answer_225 = tree 1 1 4612811918334230528 4611686018427387904 (record { props = words (4294967295 ∷ run 23 0 0 (3 ∷ run 23 0 0 (7 ∷ run 23 0 0 ([])))); toks = (run 14 0 0 (run 14 1 0 (run 14 0 0 ([])))); res = words ([]); nodes = ((node 0 0 0 0 0 1075838976 0 0 0 ∷ []) ++ fill_nodes 1 1 1); spans = ((span 0 3 ∷ []) ++ fill_spans 1 1 1); queue = replicate 1 (no_waiting); counts = replicate 4264 (0) })

-- gt's depth, or le's, its parent's; depth < 25 or 27; a seed's nodes at depth 0, or one deeper
abbrev lent_226 : Lent singles
lent_226 = lent (run 26 0 0 (1 ∷ run 23 0 0 (2 ∷ run 23 0 0 (3 ∷ run 21 0 0 ([]))))) (run 14 0 0 (run 14 1 0 (run 14 2 0 (run 14 3 0 ([]))))) ([]) ((node 1 9 4294967295 1 2 0 0 0 0 ∷ node 1 9 0 3 4 0 0 0 1 ∷ node 0 0 0 0 0 0 0 0 1 ∷ node 0 0 0 0 0 0 0 0 2 ∷ node 1 9 4294967295 5 6 0 0 0 2 ∷ node 1 9 0 7 8 0 0 0 3 ∷ node 0 0 0 0 0 0 0 0 3 ∷ node 0 0 0 0 0 0 0 0 4 ∷ node 1 9 4294967295 9 10 0 0 0 4 ∷ node 1 9 0 11 12 0 0 0 5 ∷ node 0 0 0 0 0 0 0 0 5 ∷ node 0 0 0 0 0 0 0 0 6 ∷ node 1 9 4294967295 13 14 0 0 0 6 ∷ node 1 9 0 15 16 0 0 0 7 ∷ node 0 0 0 0 0 0 0 0 7 ∷ node 0 0 0 0 0 0 0 0 8 ∷ node 1 9 4294967295 17 18 0 0 0 8 ∷ node 1 9 0 19 20 0 0 0 9 ∷ node 0 0 0 0 0 0 0 0 9 ∷ node 0 0 0 0 0 0 0 0 10 ∷ node 1 9 4294967295 21 22 0 0 0 10 ∷ node 1 9 0 23 24 0 0 0 11 ∷ node 0 0 0 0 0 0 0 0 11 ∷ node 0 0 0 0 0 0 0 0 12 ∷ node 1 9 4294967295 25 26 0 0 0 12 ∷ node 1 9 0 27 28 0 0 0 13 ∷ node 0 0 0 0 0 0 0 0 13 ∷ node 0 0 0 0 0 0 0 0 14 ∷ node 1 9 4294967295 29 30 0 0 0 14 ∷ node 1 9 0 31 32 0 0 0 15 ∷ node 0 0 0 0 0 0 0 0 15 ∷ node 0 0 0 0 0 0 0 0 16 ∷ node 1 9 4294967295 33 34 0 0 0 16 ∷ node 1 9 0 35 36 0 0 0 17 ∷ node 0 0 0 0 0 0 0 0 17 ∷ node 0 0 0 0 0 0 0 0 18 ∷ node 1 9 4294967295 37 38 0 0 0 18 ∷ node 1 9 0 39 40 0 0 0 19 ∷ node 0 0 0 0 0 0 0 0 19 ∷ node 0 0 0 0 0 0 0 0 20 ∷ node 1 9 4294967295 41 42 0 0 0 20 ∷ node 1 9 0 43 44 0 0 0 21 ∷ node 0 0 0 0 0 0 0 0 21 ∷ node 0 0 0 0 0 0 0 0 22 ∷ node 1 9 4294967295 45 46 0 0 0 22 ∷ node 1 9 0 47 48 0 0 0 23 ∷ node 0 0 0 0 0 0 0 0 23 ∷ node 0 0 0 0 0 0 0 0 24 ∷ node 1 9 4294967295 49 50 0 0 0 24 ∷ node 0 0 0 0 0 0 0 0 25 ∷ node 0 0 0 0 0 0 0 0 25 ∷ []) ++ fill_nodes 1 51 4) 55 28 4320 1

abbrev job_226 : Job
job_226 = deepening (settings 4 28 0 0 0 1 2 1 1 0 0) (0 ∷ 0 ∷ 1065353216 ∷ 1069547520 ∷ 1073741824 ∷ []) 51 lent_226

abbrev answer_226 : Answer
answer_226 = tree 53 27 4616189618054758400 4620693217682128896 (record { props = words (0 ∷ 0 ∷ 3 ∷ run 23 0 0 (2 ∷ run 23 0 0 (1 ∷ run 45 0 0 ([])))); toks = (run 14 3 0 (run 14 2 0 (run 14 1 0 (run 14 0 0 ([]))))); res = words ([]); nodes = ((node 1 9 4294967295 1 2 2139095040 0 0 0 ∷ node 1 9 0 3 4 2139095040 0 0 1 ∷ node 0 0 0 0 0 0 0 0 1 ∷ node 0 0 0 0 0 0 0 0 2 ∷ node 1 9 4294967295 5 6 2139095040 0 0 2 ∷ node 1 9 0 7 8 2139095040 0 0 3 ∷ node 0 0 0 0 0 0 0 0 3 ∷ node 0 0 0 0 0 0 0 0 4 ∷ node 1 9 4294967295 9 10 2139095040 0 0 4 ∷ node 1 9 0 11 12 2139095040 0 0 5 ∷ node 0 0 0 0 0 0 0 0 5 ∷ node 0 0 0 0 0 0 0 0 6 ∷ node 1 9 4294967295 13 14 2139095040 0 0 6 ∷ node 1 9 0 15 16 2139095040 0 0 7 ∷ node 0 0 0 0 0 0 0 0 7 ∷ node 0 0 0 0 0 0 0 0 8 ∷ node 1 9 4294967295 17 18 2139095040 0 0 8 ∷ node 1 9 0 19 20 2139095040 0 0 9 ∷ node 0 0 0 0 0 0 0 0 9 ∷ node 0 0 0 0 0 0 0 0 10 ∷ node 1 9 4294967295 21 22 2139095040 0 0 10 ∷ node 1 9 0 23 24 2139095040 0 0 11 ∷ node 0 0 0 0 0 0 0 0 11 ∷ node 0 0 0 0 0 0 0 0 12 ∷ node 1 9 4294967295 25 26 2139095040 0 0 12 ∷ node 1 9 0 27 28 2139095040 0 0 13 ∷ node 0 0 0 0 0 0 0 0 13 ∷ node 0 0 0 0 0 0 0 0 14 ∷ node 1 9 4294967295 29 30 2139095040 0 0 14 ∷ node 1 9 0 31 32 2139095040 0 0 15 ∷ node 0 0 0 0 0 0 0 0 15 ∷ node 0 0 0 0 0 0 0 0 16 ∷ node 1 9 4294967295 33 34 2139095040 0 0 16 ∷ node 1 9 0 35 36 2139095040 0 0 17 ∷ node 0 0 0 0 0 0 0 0 17 ∷ node 0 0 0 0 0 0 0 0 18 ∷ node 1 9 4294967295 37 38 2139095040 0 0 18 ∷ node 1 9 0 39 40 2139095040 0 0 19 ∷ node 0 0 0 0 0 0 0 0 19 ∷ node 0 0 0 0 0 0 0 0 20 ∷ node 1 9 4294967295 41 42 2139095040 0 0 20 ∷ node 1 9 0 43 44 2139095040 0 0 21 ∷ node 0 0 0 0 0 0 0 0 21 ∷ node 0 0 0 0 0 0 0 0 22 ∷ node 1 9 4294967295 45 46 2139095040 0 0 22 ∷ node 1 9 0 47 48 2139095040 0 0 23 ∷ node 0 0 0 0 0 0 0 0 23 ∷ node 0 0 0 0 0 0 0 0 24 ∷ node 1 9 4294967295 49 50 2139095040 0 0 24 ∷ node 1 2 1 51 52 1090519040 0 0 25 ∷ node 0 0 0 0 0 0 0 0 25 ∷ node 0 0 0 0 0 1073741824 0 0 26 ∷ node 0 0 0 0 0 1073741824 0 0 26 ∷ []) ++ fill_nodes 1 53 2); spans = ((span 0 0 ∷ span 0 0 ∷ span 0 0 ∷ span 0 0 ∷ span 0 0 ∷ span 0 0 ∷ span 0 0 ∷ span 0 0 ∷ span 0 0 ∷ span 0 0 ∷ span 0 0 ∷ span 0 0 ∷ span 0 0 ∷ span 0 0 ∷ span 0 0 ∷ span 0 0 ∷ span 0 0 ∷ span 0 0 ∷ span 0 0 ∷ span 0 0 ∷ span 0 0 ∷ span 0 0 ∷ span 0 0 ∷ span 0 0 ∷ span 0 0 ∷ span 0 0 ∷ span 0 0 ∷ span 0 0 ∷ span 0 0 ∷ span 0 0 ∷ span 0 0 ∷ span 0 0 ∷ span 0 0 ∷ span 0 0 ∷ span 0 0 ∷ span 0 0 ∷ span 0 0 ∷ span 0 0 ∷ span 0 0 ∷ span 0 0 ∷ span 0 0 ∷ span 0 0 ∷ span 0 0 ∷ span 0 0 ∷ span 0 0 ∷ span 0 0 ∷ span 0 0 ∷ span 0 0 ∷ span 0 0 ∷ span 0 4 ∷ span 0 0 ∷ span 0 2 ∷ span 2 4 ∷ []) ++ fill_spans 1 53 2); queue = replicate 28 (no_waiting); counts = replicate 4320 (0) })

-- alphabet <= 255; limit <= 4,095; price <= 2^19; smallest node <= 65,535; sides <= 13; candidates <= 31; 3 before 2; predictors 6 (weighted no), 14 and 15 left
abbrev lent_227 : Lent singles
lent_227 = lent (0 ∷ []) ([]) ([]) (([]) ++ fill_nodes 1 0 0) 0 0 0 1

abbrev job_227 : Job
job_227 = learning (settings 256 4096 1233125376 1233125376 65536 14 32 0 49216 0 0) (0 ∷ []) lent_227

abbrev answer_227 : Answer
answer_227 = refused_tree 2 0 (record { props = words (0 ∷ []); toks = ([]); res = words ([]); nodes = (([]) ++ fill_nodes 1 0 0); spans = (([]) ++ fill_spans 1 0 0); queue = []; counts = [] })

-- alphabet 0; 2 before 1
abbrev lent_228 : Lent singles
lent_228 = lent (0 ∷ []) ([]) ([]) (([]) ++ fill_nodes 1 0 0) 0 0 0 1

abbrev job_228 : Job
job_228 = learning (settings 0 1 0 0 0 1 32 0 49216 0 0) (0 ∷ []) lent_228

abbrev answer_228 : Answer
answer_228 = refused_tree 1 0 (record { props = words (0 ∷ []); toks = ([]); res = words ([]); nodes = (([]) ++ fill_nodes 1 0 0); spans = (([]) ++ fill_spans 1 0 0); queue = []; counts = [] })

-- alphabet 257
abbrev lent_229 : Lent singles
lent_229 = lent (0 ∷ []) ([]) ([]) (([]) ++ fill_nodes 1 0 0) 0 0 0 1

abbrev job_229 : Job
job_229 = learning (settings 257 1 0 0 0 1 32 0 49216 0 0) (0 ∷ []) lent_229

abbrev answer_229 : Answer
answer_229 = refused_tree 1 0 (record { props = words (0 ∷ []); toks = ([]); res = words ([]); nodes = (([]) ++ fill_nodes 1 0 0); spans = (([]) ++ fill_spans 1 0 0); queue = []; counts = [] })

-- limit 0
abbrev lent_230 : Lent singles
lent_230 = lent (0 ∷ []) ([]) ([]) (([]) ++ fill_nodes 1 0 0) 0 0 0 1

abbrev job_230 : Job
job_230 = learning (settings 1 0 0 0 0 1 32 0 49216 0 0) (0 ∷ []) lent_230

abbrev answer_230 : Answer
answer_230 = refused_tree 1 0 (record { props = words (0 ∷ []); toks = ([]); res = words ([]); nodes = (([]) ++ fill_nodes 1 0 0); spans = (([]) ++ fill_spans 1 0 0); queue = []; counts = [] })

-- limit 4,097
abbrev lent_231 : Lent singles
lent_231 = lent (0 ∷ []) ([]) ([]) (([]) ++ fill_nodes 1 0 0) 0 0 0 1

abbrev job_231 : Job
job_231 = learning (settings 1 4097 0 0 0 1 32 0 49216 0 0) (0 ∷ []) lent_231

abbrev answer_231 : Answer
answer_231 = refused_tree 1 0 (record { props = words (0 ∷ []); toks = ([]); res = words ([]); nodes = (([]) ++ fill_nodes 1 0 0); spans = (([]) ++ fill_spans 1 0 0); queue = []; counts = [] })

-- split cost above 2^20
abbrev lent_232 : Lent singles
lent_232 = lent (0 ∷ []) ([]) ([]) (([]) ++ fill_nodes 1 0 0) 0 0 0 1

abbrev job_232 : Job
job_232 = learning (settings 1 1 1233125377 0 0 1 32 0 49216 0 0) (0 ∷ []) lent_232

abbrev answer_232 : Answer
answer_232 = refused_tree 1 0 (record { props = words (0 ∷ []); toks = ([]); res = words ([]); nodes = (([]) ++ fill_nodes 1 0 0); spans = (([]) ++ fill_spans 1 0 0); queue = []; counts = [] })

-- split cost not asked
abbrev lent_233 : Lent singles
lent_233 = lent (0 ∷ []) ([]) ([]) (([]) ++ fill_nodes 1 0 0) 0 0 0 1

abbrev job_233 : Job
job_233 = learning (settings 1 1 2143289344 0 0 1 32 0 49216 0 0) (0 ∷ []) lent_233

abbrev answer_233 : Answer
answer_233 = refused_tree 1 0 (record { props = words (0 ∷ []); toks = ([]); res = words ([]); nodes = (([]) ++ fill_nodes 1 0 0); spans = (([]) ++ fill_spans 1 0 0); queue = []; counts = [] })

-- price above 2^20
abbrev lent_234 : Lent singles
lent_234 = lent (0 ∷ []) ([]) ([]) (([]) ++ fill_nodes 1 0 0) 0 0 0 1

abbrev job_234 : Job
job_234 = learning (settings 1 1 0 1233125377 0 1 32 0 49216 0 0) (0 ∷ []) lent_234

abbrev answer_234 : Answer
answer_234 = refused_tree 1 0 (record { props = words (0 ∷ []); toks = ([]); res = words ([]); nodes = (([]) ++ fill_nodes 1 0 0); spans = (([]) ++ fill_spans 1 0 0); queue = []; counts = [] })

-- price not asked; no lower end
abbrev lent_235 : Lent singles
lent_235 = lent (0 ∷ []) ([]) ([]) (([]) ++ fill_nodes 1 0 0) 0 0 0 1

abbrev job_235 : Job
job_235 = learning (settings 1 1 0 2155872256 0 1 32 0 49216 0 0) (0 ∷ []) lent_235

abbrev answer_235 : Answer
answer_235 = refused_tree 1 0 (record { props = words (0 ∷ []); toks = ([]); res = words ([]); nodes = (([]) ++ fill_nodes 1 0 0); spans = (([]) ++ fill_spans 1 0 0); queue = []; counts = [] })

-- smallest node 65,537
abbrev lent_236 : Lent singles
lent_236 = lent (0 ∷ []) ([]) ([]) (([]) ++ fill_nodes 1 0 0) 0 0 0 1

abbrev job_236 : Job
job_236 = learning (settings 1 1 0 0 65537 1 32 0 49216 0 0) (0 ∷ []) lent_236

abbrev answer_236 : Answer
answer_236 = refused_tree 1 0 (record { props = words (0 ∷ []); toks = ([]); res = words ([]); nodes = (([]) ++ fill_nodes 1 0 0); spans = (([]) ++ fill_spans 1 0 0); queue = []; counts = [] })

-- sides 15
abbrev lent_237 : Lent singles
lent_237 = lent (0 ∷ []) ([]) ([]) (([]) ++ fill_nodes 1 0 0) 0 0 0 1

abbrev job_237 : Job
job_237 = learning (settings 1 1 0 0 0 15 32 0 49216 0 0) (0 ∷ []) lent_237

abbrev answer_237 : Answer
answer_237 = refused_tree 1 0 (record { props = words (0 ∷ []); toks = ([]); res = words ([]); nodes = (([]) ++ fill_nodes 1 0 0); spans = (([]) ++ fill_spans 1 0 0); queue = []; counts = [] })

-- candidates 33
abbrev lent_238 : Lent singles
lent_238 = lent (0 ∷ []) ([]) ([]) (([]) ++ fill_nodes 1 0 0) 0 0 0 1

abbrev job_238 : Job
job_238 = learning (settings 1 1 0 0 0 1 33 0 49216 0 0) (0 ∷ []) lent_238

abbrev answer_238 : Answer
answer_238 = refused_tree 1 0 (record { props = words (0 ∷ []); toks = ([]); res = words ([]); nodes = (([]) ++ fill_nodes 1 0 0); spans = (([]) ++ fill_spans 1 0 0); queue = []; counts = [] })

-- alphabet 127 passes; 6 before 5
abbrev lent_239 : Lent singles
lent_239 = lent (run 24 0 0 ([])) (run 14 0 0 ([])) (0 ∷ []) (([]) ++ fill_nodes 1 0 0) 0 0 0 1

abbrev job_239 : Job
job_239 = learning (settings 127 1 0 0 0 1 32 1 65535 1 0) ([]) lent_239

abbrev answer_239 : Answer
answer_239 = refused_tree 5 0 (record { props = words (run 24 0 0 ([])); toks = (run 14 0 0 ([])); res = words (0 ∷ []); nodes = (([]) ++ fill_nodes 1 0 0); spans = (([]) ++ fill_spans 1 0 0); queue = []; counts = [] })

-- 5 without modal offsets
abbrev lent_240 : Lent singles
lent_240 = lent (run 24 0 0 ([])) (run 14 0 0 ([])) (0 ∷ []) (([]) ++ fill_nodes 1 0 0) 0 0 0 1

abbrev job_240 : Job
job_240 = learning (settings 127 1 0 0 0 1 32 1 65535 0 0) ([]) lent_240

abbrev answer_240 : Answer
answer_240 = refused_tree 6 0 (record { props = words (run 24 0 0 ([])); toks = (run 14 0 0 ([])); res = words (0 ∷ []); nodes = (([]) ++ fill_nodes 1 0 0); spans = (([]) ++ fill_spans 1 0 0); queue = []; counts = [] })

-- 5 without residuals
abbrev lent_241 : Lent singles
lent_241 = lent (run 24 0 0 ([])) (run 14 0 0 ([])) ([]) (([]) ++ fill_nodes 1 0 0) 0 0 0 1

abbrev job_241 : Job
job_241 = learning (settings 127 1 0 0 0 1 32 1 65535 1 0) ([]) lent_241

abbrev answer_241 : Answer
answer_241 = refused_tree 6 0 (record { props = words (run 24 0 0 ([])); toks = (run 14 0 0 ([])); res = words ([]); nodes = (([]) ++ fill_nodes 1 0 0); spans = (([]) ++ fill_spans 1 0 0); queue = []; counts = [] })

-- 5 before 4
abbrev lent_242 : Lent singles
lent_242 = lent (run 24 0 0 ([])) (run 13 0 0 (127 ∷ [])) (0 ∷ []) (([]) ++ fill_nodes 1 0 0) 0 0 0 1

abbrev job_242 : Job
job_242 = learning (settings 127 1 0 0 0 1 32 1 65535 1 0) ([]) lent_242

abbrev answer_242 : Answer
answer_242 = refused_tree 4 0 (record { props = words (run 24 0 0 ([])); toks = (run 13 0 0 (127 ∷ [])); res = words (0 ∷ []); nodes = (([]) ++ fill_nodes 1 0 0); spans = (([]) ++ fill_spans 1 0 0); queue = []; counts = [] })

-- 4 before 3; tokens not counted
abbrev lent_243 : Lent singles
lent_243 = lent (run 24 0 0 ([])) (127 ∷ run 14 0 0 ([])) (0 ∷ []) (([]) ++ fill_nodes 1 0 0) 0 0 0 1

abbrev job_243 : Job
job_243 = learning (settings 127 1 0 0 0 1 32 1 65535 1 0) ([]) lent_243

abbrev answer_243 : Answer
answer_243 = refused_tree 3 0 (record { props = words (run 24 0 0 ([])); toks = (127 ∷ run 14 0 0 ([])); res = words (0 ∷ []); nodes = (([]) ++ fill_nodes 1 0 0); spans = (([]) ++ fill_spans 1 0 0); queue = []; counts = [] })

-- properties of part of a row
abbrev lent_244 : Lent singles
lent_244 = lent (run 25 0 0 ([])) (run 14 0 0 ([])) (0 ∷ []) (([]) ++ fill_nodes 1 0 0) 0 0 0 1

abbrev job_244 : Job
job_244 = learning (settings 127 1 0 0 0 1 32 1 65535 1 0) ([]) lent_244

abbrev answer_244 : Answer
answer_244 = refused_tree 3 0 (record { props = words (run 25 0 0 ([])); toks = (run 14 0 0 ([])); res = words (0 ∷ []); nodes = (([]) ++ fill_nodes 1 0 0); spans = (([]) ++ fill_spans 1 0 0); queue = []; counts = [] })

-- residuals not counted
abbrev lent_245 : Lent singles
lent_245 = lent (run 24 0 0 ([])) (run 14 0 0 ([])) (0 ∷ 0 ∷ []) (([]) ++ fill_nodes 1 0 0) 0 0 0 1

abbrev job_245 : Job
job_245 = learning (settings 127 1 0 0 0 1 32 1 65535 1 0) ([]) lent_245

abbrev answer_245 : Answer
answer_245 = refused_tree 3 0 (record { props = words (run 24 0 0 ([])); toks = (run 14 0 0 ([])); res = words (0 ∷ 0 ∷ []); nodes = (([]) ++ fill_nodes 1 0 0); spans = (([]) ++ fill_spans 1 0 0); queue = []; counts = [] })

-- logarithm 0 looked at; logarithms to 31
abbrev lent_246 : Lent singles
lent_246 = lent (run 24 0 0 ([])) (run 14 0 0 ([])) ([]) (([]) ++ fill_nodes 1 0 0) 0 0 0 1

abbrev job_246 : Job
job_246 = learning (settings 1 1 0 0 0 1 32 1 65535 0 0) (2143289344 ∷ 1107296256 ∷ 2143289344 ∷ []) lent_246

abbrev answer_246 : Answer
answer_246 = refused_tree 7 0 (record { props = words (run 24 0 0 ([])); toks = (run 14 0 0 ([])); res = words ([]); nodes = (([]) ++ fill_nodes 1 0 0); spans = (([]) ++ fill_spans 1 0 0); queue = []; counts = [] })

-- logarithms one short; 7 before 6
abbrev lent_247 : Lent singles
lent_247 = lent (run 24 0 0 ([])) (run 14 0 0 ([])) ([]) (([]) ++ fill_nodes 1 0 0) 0 0 0 1

abbrev job_247 : Job
job_247 = learning (settings 1 1 0 0 0 1 32 1 65535 0 0) (0 ∷ []) lent_247

abbrev answer_247 : Answer
answer_247 = refused_tree 6 0 (record { props = words (run 24 0 0 ([])); toks = (run 14 0 0 ([])); res = words ([]); nodes = (([]) ++ fill_nodes 1 0 0); spans = (([]) ++ fill_spans 1 0 0); queue = []; counts = [] })

-- logarithms to 33
abbrev lent_248 : Lent singles
lent_248 = lent (run 24 0 0 ([])) (run 14 0 0 ([])) ([]) (([]) ++ fill_nodes 1 0 0) 0 0 0 1

abbrev job_248 : Job
job_248 = learning (settings 1 1 0 0 0 1 32 1 65535 0 0) (0 ∷ 1107296257 ∷ []) lent_248

abbrev answer_248 : Answer
answer_248 = refused_tree 6 0 (record { props = words (run 24 0 0 ([])); toks = (run 14 0 0 ([])); res = words ([]); nodes = (([]) ++ fill_nodes 1 0 0); spans = (([]) ++ fill_spans 1 0 0); queue = []; counts = [] })

-- logarithms below 0
abbrev lent_249 : Lent singles
lent_249 = lent (run 24 0 0 ([])) (run 14 0 0 ([])) ([]) (([]) ++ fill_nodes 1 0 0) 0 0 0 1

abbrev job_249 : Job
job_249 = learning (settings 1 1 0 0 0 1 32 1 65535 0 0) (0 ∷ 2155872256 ∷ []) lent_249

abbrev answer_249 : Answer
answer_249 = refused_tree 6 0 (record { props = words (run 24 0 0 ([])); toks = (run 14 0 0 ([])); res = words ([]); nodes = (([]) ++ fill_nodes 1 0 0); spans = (([]) ++ fill_spans 1 0 0); queue = []; counts = [] })

-- a logarithm that is no number
abbrev lent_250 : Lent singles
lent_250 = lent (run 24 0 0 ([])) (run 14 0 0 ([])) ([]) (([]) ++ fill_nodes 1 0 0) 0 0 0 1

abbrev job_250 : Job
job_250 = learning (settings 1 1 0 0 0 1 32 1 65535 0 0) (0 ∷ 2143289344 ∷ []) lent_250

abbrev answer_250 : Answer
answer_250 = refused_tree 6 0 (record { props = words (run 24 0 0 ([])); toks = (run 14 0 0 ([])); res = words ([]); nodes = (([]) ++ fill_nodes 1 0 0); spans = (([]) ++ fill_spans 1 0 0); queue = []; counts = [] })

-- count space 15A, c + 3
abbrev lent_251 : Lent singles
lent_251 = lent ([]) ([]) ([]) (([]) ++ fill_nodes 1 0 3) 3 2 4586 1

abbrev job_251 : Job
job_251 = learning (settings 1 2 0 0 0 14 32 1 65535 0 0) (0 ∷ []) lent_251

abbrev answer_251 : Answer
answer_251 = tree 1 1 0 0 (record { props = words ([]); toks = ([]); res = words ([]); nodes = ((node 0 0 0 0 0 0 0 0 0 ∷ []) ++ fill_nodes 1 1 2); spans = ((span 0 0 ∷ []) ++ fill_spans 1 1 2); queue = replicate 2 (no_waiting); counts = replicate 4586 (0) })

-- count space c + 1
abbrev lent_252 : Lent singles
lent_252 = lent ([]) ([]) ([]) (([]) ++ fill_nodes 1 0 3) 3 2 4585 1

abbrev job_252 : Job
job_252 = learning (settings 1 2 0 0 0 14 32 1 65535 0 0) (0 ∷ []) lent_252

abbrev answer_252 : Answer
answer_252 = refused_tree 7 0 (record { props = words ([]); toks = ([]); res = words ([]); nodes = (([]) ++ fill_nodes 1 0 3); spans = (([]) ++ fill_spans 1 0 3); queue = replicate 2 (fill_waiting 1); counts = replicate 4585 (1) })

-- count space 4,095 + .., 55A
abbrev lent_253 : Lent singles
lent_253 = lent ([]) ([]) ([]) (([]) ++ fill_nodes 1 0 3) 3 2 4151 1

abbrev job_253 : Job
job_253 = learning (settings 1 2 0 0 0 1 0 1 65535 0 0) (0 ∷ []) lent_253

abbrev answer_253 : Answer
answer_253 = refused_tree 7 0 (record { props = words ([]); toks = ([]); res = words ([]); nodes = (([]) ++ fill_nodes 1 0 3); spans = (([]) ++ fill_spans 1 0 3); queue = replicate 2 (fill_waiting 1); counts = replicate 4151 (1) })

-- nodes one short
abbrev lent_254 : Lent singles
lent_254 = lent ([]) ([]) ([]) (([]) ++ fill_nodes 1 0 2) 3 2 4152 1

abbrev job_254 : Job
job_254 = learning (settings 1 2 0 0 0 1 0 1 65535 0 0) (0 ∷ []) lent_254

abbrev answer_254 : Answer
answer_254 = refused_tree 7 0 (record { props = words ([]); toks = ([]); res = words ([]); nodes = (([]) ++ fill_nodes 1 0 2); spans = (([]) ++ fill_spans 1 0 3); queue = replicate 2 (fill_waiting 1); counts = replicate 4152 (1) })

-- spans not counted
abbrev lent_255 : Lent singles
lent_255 = lent ([]) ([]) ([]) (([]) ++ fill_nodes 1 0 3) 2 2 4152 1

abbrev job_255 : Job
job_255 = learning (settings 1 2 0 0 0 1 0 1 65535 0 0) (0 ∷ []) lent_255

abbrev answer_255 : Answer
answer_255 = refused_tree 7 0 (record { props = words ([]); toks = ([]); res = words ([]); nodes = (([]) ++ fill_nodes 1 0 3); spans = (([]) ++ fill_spans 1 0 2); queue = replicate 2 (fill_waiting 1); counts = replicate 4152 (1) })

-- queue not counted
abbrev lent_256 : Lent singles
lent_256 = lent ([]) ([]) ([]) (([]) ++ fill_nodes 1 0 3) 3 1 4152 1

abbrev job_256 : Job
job_256 = learning (settings 1 2 0 0 0 1 0 1 65535 0 0) (0 ∷ []) lent_256

abbrev answer_256 : Answer
answer_256 = refused_tree 7 0 (record { props = words ([]); toks = ([]); res = words ([]); nodes = (([]) ++ fill_nodes 1 0 3); spans = (([]) ++ fill_spans 1 0 3); queue = replicate 1 (fill_waiting 1); counts = replicate 4152 (1) })

-- a node without a parent passes
abbrev lent_257 : Lent singles
lent_257 = lent (run 24 0 0 ([])) (run 14 0 0 ([])) ([]) ((node 1 0 0 1 2 0 0 0 0 ∷ node 0 0 0 0 0 0 0 0 1 ∷ node 0 0 0 0 0 0 0 0 1 ∷ []) ++ fill_nodes 1 3 1) 4 1 4152 1

abbrev job_257 : Job
job_257 = deepening (settings 1 1 0 0 0 1 0 1 65535 0 0) (0 ∷ 0 ∷ []) 4 lent_257

abbrev answer_257 : Answer
answer_257 = refused_tree 8 3 (record { props = words (run 24 0 0 ([])); toks = (run 14 0 0 ([])); res = words ([]); nodes = ((node 1 0 0 1 2 0 0 0 0 ∷ node 0 0 0 0 0 0 0 0 1 ∷ node 0 0 0 0 0 0 0 0 1 ∷ []) ++ fill_nodes 1 3 1); spans = (([]) ++ fill_spans 1 0 4); queue = replicate 1 (fill_waiting 1); counts = replicate 4152 (1) })

-- a seed of no node passes
abbrev lent_258 : Lent singles
lent_258 = lent (run 24 0 0 ([])) (run 14 0 0 ([])) ([]) ((node 1 0 0 1 2 0 0 0 0 ∷ node 0 0 0 0 0 0 0 0 1 ∷ node 0 0 0 0 0 0 0 0 1 ∷ []) ++ fill_nodes 1 3 1) 4 1 4152 1

abbrev job_258 : Job
job_258 = deepening (settings 1 1 0 0 0 1 0 1 65535 0 0) (0 ∷ 0 ∷ []) 0 lent_258

abbrev answer_258 : Answer
answer_258 = refused_tree 8 0 (record { props = words (run 24 0 0 ([])); toks = (run 14 0 0 ([])); res = words ([]); nodes = ((node 1 0 0 1 2 0 0 0 0 ∷ node 0 0 0 0 0 0 0 0 1 ∷ node 0 0 0 0 0 0 0 0 1 ∷ []) ++ fill_nodes 1 3 1); spans = (([]) ++ fill_spans 1 0 4); queue = replicate 1 (fill_waiting 1); counts = replicate 4152 (1) })

-- a seed's nodes not counted
abbrev lent_259 : Lent singles
lent_259 = lent (run 24 0 0 ([])) (run 14 0 0 ([])) ([]) ((node 1 0 0 1 2 0 0 0 0 ∷ node 0 0 0 0 0 0 0 0 1 ∷ node 0 0 0 0 0 0 0 0 1 ∷ []) ++ fill_nodes 1 3 0) 4 1 4152 1

abbrev job_259 : Job
job_259 = deepening (settings 1 1 0 0 0 1 0 1 65535 0 0) (0 ∷ 0 ∷ []) 4 lent_259

abbrev answer_259 : Answer
answer_259 = refused_tree 7 0 (record { props = words (run 24 0 0 ([])); toks = (run 14 0 0 ([])); res = words ([]); nodes = ((node 1 0 0 1 2 0 0 0 0 ∷ node 0 0 0 0 0 0 0 0 1 ∷ node 0 0 0 0 0 0 0 0 1 ∷ []) ++ fill_nodes 1 3 0); spans = (([]) ++ fill_spans 1 0 4); queue = replicate 1 (fill_waiting 1); counts = replicate 4152 (1) })

-- a seed's spans not counted; 8 before 7
abbrev lent_260 : Lent singles
lent_260 = lent (run 24 0 0 ([])) (run 14 0 0 ([])) ([]) ((node 1 0 0 1 2 0 0 0 0 ∷ node 0 0 0 0 0 0 0 0 1 ∷ node 0 0 0 0 0 0 0 0 1 ∷ []) ++ fill_nodes 1 3 1) 3 1 4152 1

abbrev job_260 : Job
job_260 = deepening (settings 1 1 0 0 0 1 0 1 65535 0 0) (0 ∷ 0 ∷ []) 4 lent_260

abbrev answer_260 : Answer
answer_260 = refused_tree 7 0 (record { props = words (run 24 0 0 ([])); toks = (run 14 0 0 ([])); res = words ([]); nodes = ((node 1 0 0 1 2 0 0 0 0 ∷ node 0 0 0 0 0 0 0 0 1 ∷ node 0 0 0 0 0 0 0 0 1 ∷ []) ++ fill_nodes 1 3 1); spans = (([]) ++ fill_spans 1 0 3); queue = replicate 1 (fill_waiting 1); counts = replicate 4152 (1) })

-- count space for a seed not asked, or without its rows
abbrev lent_261 : Lent singles
lent_261 = lent (run 24 0 0 ([])) (run 14 0 0 ([])) ([]) ((node 1 0 0 1 2 0 0 0 0 ∷ node 0 0 0 0 0 0 0 0 1 ∷ node 0 0 0 0 0 0 0 0 1 ∷ []) ++ fill_nodes 1 3 2074) 2077 1 4154 1

abbrev job_261 : Job
job_261 = deepening (settings 1 1 0 0 0 1 0 1 65535 0 0) (0 ∷ 0 ∷ []) 2077 lent_261

abbrev answer_261 : Answer
answer_261 = refused_tree 7 0 (record { props = words (run 24 0 0 ([])); toks = (run 14 0 0 ([])); res = words ([]); nodes = ((node 1 0 0 1 2 0 0 0 0 ∷ node 0 0 0 0 0 0 0 0 1 ∷ node 0 0 0 0 0 0 0 0 1 ∷ []) ++ fill_nodes 1 3 2074); spans = (([]) ++ fill_spans 1 0 2077); queue = replicate 1 (fill_waiting 1); counts = replicate 4154 (1) })

-- 8,190 nodes
abbrev job_262 : Job
job_262 = numbering 8191 ((node 1 0 0 1 2 0 0 0 0 ∷ node 0 0 0 0 0 0 14 0 1 ∷ []) ++ fill_nodes 1 2 8189) (record { contexts = replicate 0 1; queue = replicate 0 1 })

abbrev answer_262 : Answer
answer_262 = contexts_are 8 1 0 ([]) ([])

-- 8,192 nodes
abbrev job_263 : Job
job_263 = numbering 8192 ((node 1 0 0 1 2 0 0 0 0 ∷ node 0 0 0 0 0 0 14 0 1 ∷ []) ++ fill_nodes 1 2 8190) (record { contexts = replicate 0 1; queue = replicate 0 1 })

abbrev answer_263 : Answer
answer_263 = contexts_are 8 0 0 ([]) ([])

-- a root at another depth than 0 passes, in deepening
abbrev lent_264 : Lent singles
lent_264 = lent (run 24 0 0 ([])) (run 14 0 0 ([])) ([]) ((node 0 0 0 0 0 0 5 0 1 ∷ []) ++ fill_nodes 1 1 2) 3 2 4152 1

abbrev job_264 : Job
job_264 = deepening (settings 1 2 0 0 0 1 0 1 65535 0 0) (0 ∷ 0 ∷ []) 1 lent_264

abbrev answer_264 : Answer
answer_264 = refused_tree 8 0 (record { props = words (run 24 0 0 ([])); toks = (run 14 0 0 ([])); res = words ([]); nodes = ((node 0 0 0 0 0 0 5 0 1 ∷ []) ++ fill_nodes 1 1 2); spans = (([]) ++ fill_spans 1 0 3); queue = replicate 2 (fill_waiting 1); counts = replicate 4152 (1) })

-- a root at another depth than 0 passes, in contexts
abbrev job_265 : Job
job_265 = numbering 1 ((node 0 0 0 0 0 0 5 0 1 ∷ []) ++ fill_nodes 1 1 1) (record { contexts = replicate 2 1; queue = replicate 1 1 })

abbrev answer_265 : Answer
answer_265 = contexts_are 8 0 0 (1 ∷ 1 ∷ []) (replicate 1 (1))

-- a root at another depth than 0 passes, in the writer
abbrev job_266 : Job
job_266 = writing 1 ((node 0 0 0 0 0 0 5 0 1 ∷ []) ++ fill_nodes 1 1 1) (record { symbols = fill_pairs 1 0 5; queue = replicate 1 1 })

abbrev answer_266 : Answer
answer_266 = symbols_are 8 0 0 (pair 1 2 ∷ pair 2 3 ∷ pair 3 4 ∷ pair 4 5 ∷ pair 5 6 ∷ []) (replicate 1 (1))

-- lookup looks at the root's depth
abbrev job_267 : Job
job_267 = looking 1 ((node 0 0 0 0 0 0 5 0 1 ∷ []) ++ fill_nodes 1 1 1) (run 24 4 0 ([]))

abbrev answer_267 : Answer
answer_267 = leaf_at 0 5

-- only le's depth looked at; a depth of at most one more passes
abbrev job_268 : Job
job_268 = numbering 3 ((node 1 2 3 1 2 0 0 0 0 ∷ node 0 0 0 0 0 0 1 0 0 ∷ node 0 0 0 0 0 0 2 0 1 ∷ []) ++ fill_nodes 1 3 1) (record { contexts = replicate 4 1; queue = replicate 3 1 })

abbrev answer_268 : Answer
answer_268 = contexts_are 8 1 0 (1 ∷ 1 ∷ 1 ∷ 1 ∷ []) (replicate 3 (1))

-- only gt's depth looked at
abbrev job_269 : Job
job_269 = numbering 3 ((node 1 2 3 1 2 0 0 0 0 ∷ node 0 0 0 0 0 0 1 0 1 ∷ node 0 0 0 0 0 0 2 0 0 ∷ []) ++ fill_nodes 1 3 1) (record { contexts = replicate 4 1; queue = replicate 3 1 })

abbrev answer_269 : Answer
answer_269 = contexts_are 8 2 0 (1 ∷ 1 ∷ 1 ∷ 1 ∷ []) (replicate 3 (1))

-- a depth of at least one more passes
abbrev job_270 : Job
job_270 = numbering 3 ((node 1 2 3 1 2 0 0 0 0 ∷ node 0 0 0 0 0 0 1 0 2 ∷ node 0 0 0 0 0 0 2 0 1 ∷ []) ++ fill_nodes 1 3 1) (record { contexts = replicate 4 1; queue = replicate 3 1 })

abbrev answer_270 : Answer
answer_270 = contexts_are 8 1 0 (1 ∷ 1 ∷ 1 ∷ 1 ∷ []) (replicate 3 (1))

-- only gt's depth looked at, in the writer
abbrev job_271 : Job
job_271 = writing 3 ((node 1 2 3 1 2 0 0 0 0 ∷ node 0 0 0 0 0 0 1 0 1 ∷ node 0 0 0 0 0 0 2 0 2 ∷ []) ++ fill_nodes 1 3 1) (record { symbols = fill_pairs 1 0 15; queue = replicate 3 1 })

abbrev answer_271 : Answer
answer_271 = symbols_are 8 2 0 (pair 1 2 ∷ pair 2 3 ∷ pair 3 4 ∷ pair 4 5 ∷ pair 5 6 ∷ pair 6 7 ∷ pair 7 8 ∷ pair 8 9 ∷ pair 9 10 ∷ pair 10 11 ∷ pair 11 12 ∷ pair 12 13 ∷ pair 13 14 ∷ pair 14 15 ∷ pair 15 16 ∷ []) (replicate 3 (1))

-- only gt's depth looked at, in deepening
abbrev lent_272 : Lent singles
lent_272 = lent (run 24 0 0 ([])) (run 14 0 0 ([])) ([]) ((node 1 2 3 1 2 0 0 0 0 ∷ node 0 0 0 0 0 0 1 0 1 ∷ node 0 0 0 0 0 0 2 0 4294967295 ∷ []) ++ fill_nodes 1 3 0) 3 2 4152 1

abbrev job_272 : Job
job_272 = deepening (settings 1 2 0 0 0 1 0 1 65535 0 0) (0 ∷ 0 ∷ []) 3 lent_272

abbrev answer_272 : Answer
answer_272 = refused_tree 8 2 (record { props = words (run 24 0 0 ([])); toks = (run 14 0 0 ([])); res = words ([]); nodes = ((node 1 2 3 1 2 0 0 0 0 ∷ node 0 0 0 0 0 0 1 0 1 ∷ node 0 0 0 0 0 0 2 0 4294967295 ∷ []) ++ fill_nodes 1 3 0); spans = (([]) ++ fill_spans 1 0 3); queue = replicate 2 (fill_waiting 1); counts = replicate 4152 (1) })

-- lookup looks at depths on its way
abbrev job_273 : Job
job_273 = looking 3 ((node 1 2 3 1 2 0 0 0 0 ∷ node 0 0 0 0 0 0 1 0 0 ∷ node 0 0 0 0 0 0 2 0 7 ∷ []) ++ fill_nodes 1 3 1) (run 24 4 0 ([]))

abbrev answer_273 : Answer
answer_273 = leaf_at 1 1

-- the parent's depth, for one more
abbrev job_274 : Job
job_274 = numbering 3 ((node 0 0 0 0 0 0 1 0 0 ∷ node 0 0 0 0 0 0 2 0 6 ∷ node 1 2 3 1 1 0 0 0 5 ∷ []) ++ fill_nodes 1 3 1) (record { contexts = replicate 4 1; queue = replicate 3 1 })

abbrev answer_274 : Answer
answer_274 = contexts_are 8 2 0 (1 ∷ 1 ∷ 1 ∷ 1 ∷ []) (replicate 3 (1))

-- only a parent before its child counts for the depth
abbrev job_275 : Job
job_275 = numbering 3 ((node 0 0 0 0 0 0 1 0 0 ∷ node 0 0 0 0 0 0 2 0 5 ∷ node 1 2 3 1 1 0 0 0 5 ∷ []) ++ fill_nodes 1 3 1) (record { contexts = replicate 4 1; queue = replicate 3 1 })

abbrev answer_275 : Answer
answer_275 = contexts_are 8 1 0 (1 ∷ 1 ∷ 1 ∷ 1 ∷ []) (replicate 3 (1))

-- depths not looked at, but the root's
abbrev job_276 : Job
job_276 = numbering 3 ((node 0 0 0 0 0 0 1 0 0 ∷ node 0 0 0 0 0 0 2 0 0 ∷ node 1 2 3 1 1 0 0 0 5 ∷ []) ++ fill_nodes 1 3 1) (record { contexts = replicate 4 1; queue = replicate 3 1 })

abbrev answer_276 : Answer
answer_276 = contexts_are 8 1 0 (1 ∷ 1 ∷ 1 ∷ 1 ∷ []) (replicate 3 (1))

-- a sum that runs round, 0 one more than 4,294,967,295
abbrev job_277 : Job
job_277 = numbering 3 ((node 0 0 0 0 0 0 1 0 0 ∷ node 0 0 0 0 0 0 2 0 0 ∷ node 1 2 3 1 1 0 0 0 4294967295 ∷ []) ++ fill_nodes 1 3 1) (record { contexts = replicate 4 1; queue = replicate 3 1 })

abbrev answer_277 : Answer
answer_277 = contexts_are 8 1 0 (1 ∷ 1 ∷ 1 ∷ 1 ∷ []) (replicate 3 (1))

-- a sum that runs round, in the writer
abbrev job_278 : Job
job_278 = writing 3 ((node 0 0 0 0 0 0 1 0 0 ∷ node 0 0 0 0 0 0 2 0 0 ∷ node 1 2 3 1 1 0 0 0 4294967295 ∷ []) ++ fill_nodes 1 3 1) (record { symbols = fill_pairs 1 0 15; queue = replicate 3 1 })

abbrev answer_278 : Answer
answer_278 = symbols_are 8 1 0 (pair 1 2 ∷ pair 2 3 ∷ pair 3 4 ∷ pair 4 5 ∷ pair 5 6 ∷ pair 6 7 ∷ pair 7 8 ∷ pair 8 9 ∷ pair 9 10 ∷ pair 10 11 ∷ pair 11 12 ∷ pair 12 13 ∷ pair 13 14 ∷ pair 14 15 ∷ pair 15 16 ∷ []) (replicate 3 (1))

-- the highest node at fault named
abbrev job_279 : Job
job_279 = numbering 7 ((node 1 2 3 5 1 0 0 0 0 ∷ node 1 2 1 4 2 0 0 0 1 ∷ node 1 9 0 6 3 0 0 0 2 ∷ node 0 0 0 0 0 0 1 0 1 ∷ node 0 0 0 0 0 0 2 0 2 ∷ node 0 0 0 0 0 0 14 0 1 ∷ node 0 0 0 0 0 0 4 0 3 ∷ []) ++ fill_nodes 1 7 1) (record { contexts = replicate 8 1; queue = replicate 7 1 })

abbrev answer_279 : Answer
answer_279 = contexts_are 8 3 0 (run 8 1 0 ([])) (replicate 7 (1))

-- one more than the node before it, for its parent
abbrev job_280 : Job
job_280 = numbering 7 ((node 1 2 3 5 1 0 0 0 0 ∷ node 1 2 1 4 2 0 0 0 1 ∷ node 1 9 0 6 3 0 0 0 2 ∷ node 0 0 0 0 0 0 1 0 3 ∷ node 0 0 0 0 0 0 2 0 2 ∷ node 0 0 0 0 0 0 3 0 1 ∷ node 0 0 0 0 0 0 4 0 3 ∷ []) ++ fill_nodes 1 7 1) (record { contexts = replicate 8 1; queue = replicate 7 1 })

abbrev answer_280 : Answer
answer_280 = contexts_are 0 0 4 (4294967295 ∷ 4294967295 ∷ 4294967295 ∷ 3 ∷ 1 ∷ 0 ∷ 2 ∷ 1 ∷ []) (replicate 7 (0))

-- one more than the node before it, in the writer
abbrev job_281 : Job
job_281 = writing 7 ((node 1 2 3 5 1 0 0 0 0 ∷ node 1 2 1 4 2 0 0 0 1 ∷ node 1 9 0 6 3 0 0 0 2 ∷ node 0 0 0 0 0 0 1 0 3 ∷ node 0 0 0 0 0 0 2 0 2 ∷ node 0 0 0 0 0 0 3 0 1 ∷ node 0 0 0 0 0 0 4 0 3 ∷ []) ++ fill_nodes 1 7 1) (record { symbols = fill_pairs 1 0 35; queue = replicate 7 1 })

abbrev answer_281 : Answer
answer_281 = symbols_are 0 0 26 (pair 1 3 ∷ pair 0 6 ∷ pair 1 0 ∷ pair 2 3 ∷ pair 3 0 ∷ pair 4 0 ∷ pair 5 0 ∷ pair 1 3 ∷ pair 0 2 ∷ pair 1 0 ∷ pair 2 2 ∷ pair 3 0 ∷ pair 4 0 ∷ pair 5 0 ∷ pair 1 10 ∷ pair 0 0 ∷ pair 1 0 ∷ pair 2 4 ∷ pair 3 0 ∷ pair 4 0 ∷ pair 5 0 ∷ pair 1 0 ∷ pair 2 1 ∷ pair 3 0 ∷ pair 4 0 ∷ pair 5 0 ∷ pair 27 28 ∷ pair 28 29 ∷ pair 29 30 ∷ pair 30 31 ∷ pair 31 32 ∷ pair 32 33 ∷ pair 33 34 ∷ pair 34 35 ∷ pair 35 36 ∷ []) (replicate 7 (0))

-- gt at its parent's depth, before the next split
abbrev lent_282 : Lent singles
lent_282 = lent (0 ∷ 0 ∷ 2 ∷ 0 ∷ 0 ∷ 0 ∷ 0 ∷ 0 ∷ 0 ∷ 1 ∷ run 40 0 0 (1 ∷ 0 ∷ 0 ∷ 0 ∷ 0 ∷ 0 ∷ 0 ∷ 1 ∷ run 16 0 0 (3 ∷ run 30 0 0 (1 ∷ run 16 0 0 (2 ∷ run 23 0 0 (3 ∷ 0 ∷ 0 ∷ 0 ∷ 0 ∷ 0 ∷ 0 ∷ 1 ∷ run 16 0 0 (1 ∷ run 21 0 0 ([])))))))) (run 14 5 0 (run 14 0 0 (run 14 3 0 (run 14 6 0 (run 14 1 0 (run 14 4 0 (run 14 7 0 (run 14 2 0 ([]))))))))) ([]) (([]) ++ fill_nodes 1 0 6) 6 3 4544 1

abbrev job_282 : Job
job_282 = learning (settings 8 2 0 0 0 1 2 1 3 0 0) (0 ∷ 0 ∷ 1065353216 ∷ 1069547520 ∷ 1073741824 ∷ 1074790400 ∷ 1075838976 ∷ 1076887552 ∷ 1077936128 ∷ []) lent_282

abbrev answer_282 : Answer
answer_282 = tree 3 2 4625196817309499392 4627448617123184640 (record { props = words (0 ∷ 0 ∷ 2 ∷ 0 ∷ 0 ∷ 0 ∷ 0 ∷ 0 ∷ 0 ∷ 1 ∷ run 16 0 0 (3 ∷ 0 ∷ 0 ∷ 0 ∷ 0 ∷ 0 ∷ 0 ∷ 1 ∷ run 16 0 0 (2 ∷ run 23 0 0 (3 ∷ run 30 0 0 (1 ∷ run 16 0 0 (1 ∷ 0 ∷ 0 ∷ 0 ∷ 0 ∷ 0 ∷ 0 ∷ 1 ∷ run 16 0 0 (1 ∷ run 45 0 0 ([])))))))); toks = (run 14 5 0 (run 14 7 0 (run 14 4 0 (run 14 6 0 (run 14 1 0 (run 14 3 0 (run 14 2 0 (run 14 0 0 ([]))))))))); res = words ([]); nodes = ((node 1 2 1 1 2 1103101952 0 0 0 ∷ node 0 0 0 0 0 1090519040 0 0 1 ∷ node 0 0 0 0 0 1090519040 0 0 1 ∷ []) ++ fill_nodes 1 3 3); spans = ((span 0 8 ∷ span 0 4 ∷ span 4 8 ∷ []) ++ fill_spans 1 3 3); queue = replicate 3 (no_waiting); counts = replicate 4544 (0) })

-- le at its parent's depth; the split one deeper
abbrev lent_283 : Lent singles
lent_283 = lent (0 ∷ 0 ∷ 2 ∷ 0 ∷ 0 ∷ 0 ∷ 0 ∷ 0 ∷ 0 ∷ 1 ∷ run 40 0 0 (1 ∷ 0 ∷ 0 ∷ 0 ∷ 0 ∷ 0 ∷ 0 ∷ 1 ∷ run 16 0 0 (3 ∷ run 30 0 0 (1 ∷ run 16 0 0 (2 ∷ run 23 0 0 (3 ∷ 0 ∷ 0 ∷ 0 ∷ 0 ∷ 0 ∷ 0 ∷ 1 ∷ run 16 0 0 (1 ∷ run 21 0 0 ([])))))))) (run 14 5 0 (run 14 0 0 (run 14 3 0 (run 14 6 0 (run 14 1 0 (run 14 4 0 (run 14 7 0 (run 14 2 0 ([]))))))))) ([]) (([]) ++ fill_nodes 1 0 6) 6 3 4544 1

abbrev job_283 : Job
job_283 = learning (settings 8 3 0 0 0 1 2 1 3 0 0) (0 ∷ 0 ∷ 1065353216 ∷ 1069547520 ∷ 1073741824 ∷ 1074790400 ∷ 1075838976 ∷ 1076887552 ∷ 1077936128 ∷ []) lent_283

abbrev answer_283 : Answer
answer_283 = tree 5 3 4622945017495814144 4627448617123184640 (record { props = words (0 ∷ 0 ∷ 3 ∷ run 23 0 0 (3 ∷ 0 ∷ 0 ∷ 0 ∷ 0 ∷ 0 ∷ 0 ∷ 1 ∷ run 16 0 0 (2 ∷ run 23 0 0 (2 ∷ 0 ∷ 0 ∷ 0 ∷ 0 ∷ 0 ∷ 0 ∷ 1 ∷ run 23 0 0 (1 ∷ run 16 0 0 (1 ∷ 0 ∷ 0 ∷ 0 ∷ 0 ∷ 0 ∷ 0 ∷ 1 ∷ run 16 0 0 (1 ∷ run 45 0 0 ([])))))))); toks = (run 14 6 0 (run 14 7 0 (run 14 4 0 (run 14 5 0 (run 14 1 0 (run 14 3 0 (run 14 2 0 (run 14 0 0 ([]))))))))); res = words ([]); nodes = ((node 1 2 1 1 2 1103101952 0 0 0 ∷ node 1 2 2 3 4 1090519040 0 0 1 ∷ node 0 0 0 0 0 1090519040 0 0 1 ∷ node 0 0 0 0 0 1073741824 0 0 2 ∷ node 0 0 0 0 0 1073741824 0 0 2 ∷ []) ++ fill_nodes 1 5 1); spans = ((span 0 8 ∷ span 0 4 ∷ span 4 8 ∷ span 0 2 ∷ span 2 4 ∷ []) ++ fill_spans 1 5 1); queue = replicate 3 (no_waiting); counts = replicate 4544 (0) })

-- a seed's splits, or rowless leaves, at depth 0
abbrev lent_284 : Lent singles
lent_284 = lent (0 ∷ 0 ∷ 2 ∷ 0 ∷ 0 ∷ 0 ∷ 0 ∷ 0 ∷ 0 ∷ 1 ∷ run 40 0 0 (1 ∷ 0 ∷ 0 ∷ 0 ∷ 0 ∷ 0 ∷ 0 ∷ 1 ∷ run 16 0 0 (3 ∷ run 30 0 0 (1 ∷ run 16 0 0 (2 ∷ run 23 0 0 (3 ∷ 0 ∷ 0 ∷ 0 ∷ 0 ∷ 0 ∷ 0 ∷ 1 ∷ run 16 0 0 (1 ∷ run 21 0 0 ([])))))))) (run 14 5 0 (run 14 0 0 (run 14 3 0 (run 14 6 0 (run 14 1 0 (run 14 4 0 (run 14 7 0 (run 14 2 0 ([]))))))))) ([]) ((node 1 2 9 1 2 0 0 0 0 ∷ node 0 0 0 0 0 0 1 5 1 ∷ node 1 2 1 3 4 0 0 0 1 ∷ node 0 0 0 0 0 0 0 0 2 ∷ node 0 0 0 0 0 0 0 0 2 ∷ []) ++ fill_nodes 1 5 3) 8 4 4544 1

abbrev job_284 : Job
job_284 = deepening (settings 8 3 0 0 0 1 2 1 3 0 0) (0 ∷ 0 ∷ 1065353216 ∷ 1069547520 ∷ 1073741824 ∷ 1074790400 ∷ 1075838976 ∷ 1076887552 ∷ 1077936128 ∷ []) 5 lent_284

abbrev answer_284 : Answer
answer_284 = tree 5 3 4625196817309499392 4627448617123184640 (record { props = words (0 ∷ 0 ∷ 2 ∷ 0 ∷ 0 ∷ 0 ∷ 0 ∷ 0 ∷ 0 ∷ 1 ∷ run 16 0 0 (3 ∷ run 23 0 0 (2 ∷ run 23 0 0 (3 ∷ 0 ∷ 0 ∷ 0 ∷ 0 ∷ 0 ∷ 0 ∷ 1 ∷ run 40 0 0 (1 ∷ 0 ∷ 0 ∷ 0 ∷ 0 ∷ 0 ∷ 0 ∷ 1 ∷ run 23 0 0 (1 ∷ run 16 0 0 (1 ∷ run 21 0 0 ([])))))))); toks = (run 14 5 0 (run 14 6 0 (run 14 4 0 (run 14 7 0 (run 14 0 0 (run 14 3 0 (run 14 1 0 (run 14 2 0 ([]))))))))); res = words ([]); nodes = ((node 1 2 9 1 2 2139095040 0 0 0 ∷ node 0 0 0 0 0 0 1 5 1 ∷ node 1 2 1 3 4 2139095040 0 0 1 ∷ node 0 0 0 0 0 1090519040 0 0 2 ∷ node 0 0 0 0 0 1090519040 0 0 2 ∷ []) ++ fill_nodes 1 5 3); spans = ((span 0 0 ∷ span 0 0 ∷ span 0 0 ∷ span 0 4 ∷ span 4 8 ∷ []) ++ fill_spans 1 5 3); queue = replicate 4 (no_waiting); counts = replicate 4544 (0) })

-- a seed's leaves with rows at depth 0
abbrev lent_285 : Lent singles
lent_285 = lent (0 ∷ 0 ∷ 2 ∷ 0 ∷ 0 ∷ 0 ∷ 0 ∷ 0 ∷ 0 ∷ 1 ∷ run 40 0 0 (1 ∷ 0 ∷ 0 ∷ 0 ∷ 0 ∷ 0 ∷ 0 ∷ 1 ∷ run 16 0 0 (3 ∷ run 30 0 0 (1 ∷ run 16 0 0 (2 ∷ run 23 0 0 (3 ∷ 0 ∷ 0 ∷ 0 ∷ 0 ∷ 0 ∷ 0 ∷ 1 ∷ run 16 0 0 (1 ∷ run 21 0 0 ([])))))))) (run 14 5 0 (run 14 0 0 (run 14 3 0 (run 14 6 0 (run 14 1 0 (run 14 4 0 (run 14 7 0 (run 14 2 0 ([]))))))))) ([]) ((node 1 2 9 1 2 0 0 0 0 ∷ node 0 0 0 0 0 0 1 5 1 ∷ node 1 2 1 3 4 0 0 0 1 ∷ node 0 0 0 0 0 0 0 0 2 ∷ node 0 0 0 0 0 0 0 0 2 ∷ []) ++ fill_nodes 1 5 3) 8 4 4544 1

abbrev job_285 : Job
job_285 = deepening (settings 8 4 0 0 0 1 2 1 3 0 0) (0 ∷ 0 ∷ 1065353216 ∷ 1069547520 ∷ 1073741824 ∷ 1074790400 ∷ 1075838976 ∷ 1076887552 ∷ 1077936128 ∷ []) 5 lent_285

abbrev answer_285 : Answer
answer_285 = tree 7 4 4622945017495814144 4627448617123184640 (record { props = words (0 ∷ 0 ∷ 3 ∷ 0 ∷ 0 ∷ 0 ∷ 0 ∷ 0 ∷ 0 ∷ 1 ∷ run 16 0 0 (3 ∷ run 23 0 0 (2 ∷ run 23 0 0 (2 ∷ 0 ∷ 0 ∷ 0 ∷ 0 ∷ 0 ∷ 0 ∷ 1 ∷ run 40 0 0 (1 ∷ 0 ∷ 0 ∷ 0 ∷ 0 ∷ 0 ∷ 0 ∷ 1 ∷ run 23 0 0 (1 ∷ run 16 0 0 (1 ∷ run 21 0 0 ([])))))))); toks = (run 14 7 0 (run 14 6 0 (run 14 4 0 (run 14 5 0 (run 14 0 0 (run 14 3 0 (run 14 1 0 (run 14 2 0 ([]))))))))); res = words ([]); nodes = ((node 1 2 9 1 2 2139095040 0 0 0 ∷ node 0 0 0 0 0 0 1 5 1 ∷ node 1 2 1 3 4 2139095040 0 0 1 ∷ node 1 2 2 5 6 1090519040 0 0 2 ∷ node 0 0 0 0 0 1090519040 0 0 2 ∷ node 0 0 0 0 0 1073741824 0 0 3 ∷ node 0 0 0 0 0 1073741824 0 0 3 ∷ []) ++ fill_nodes 1 7 1); spans = ((span 0 0 ∷ span 0 0 ∷ span 0 0 ∷ span 0 4 ∷ span 4 8 ∷ span 0 2 ∷ span 2 4 ∷ []) ++ fill_spans 1 7 1); queue = replicate 4 (no_waiting); counts = replicate 4544 (0) })

-- depths left where they are in pruning, or 0; vacated entries with a depth
abbrev lent_286 : Lent singles
lent_286 = lent (run 33 0 0 (1 ∷ run 16 0 0 (5 ∷ run 23 0 0 (5 ∷ 0 ∷ 0 ∷ 0 ∷ 0 ∷ 0 ∷ 0 ∷ 1 ∷ run 16 0 0 (5 ∷ 0 ∷ 0 ∷ 0 ∷ 0 ∷ 0 ∷ 0 ∷ 1 ∷ run 14 0 0 ([])))))) (run 14 1 0 (run 14 2 0 (run 14 4 0 (run 28 5 0 ([]))))) ([]) (([]) ++ fill_nodes 1 0 10) 10 5 4544 1

abbrev job_286 : Job
job_286 = learning (settings 8 5 0 1074790400 0 1 4 1 3 0 0) (0 ∷ 0 ∷ 1065353216 ∷ 1069547520 ∷ 1073741824 ∷ 1074790400 ∷ []) lent_286

abbrev answer_286 : Answer
answer_286 = tree 5 3 4611686018427387904 4621396905123905536 (record { props = words (0 ∷ 0 ∷ 5 ∷ 0 ∷ 0 ∷ 0 ∷ 0 ∷ 0 ∷ 0 ∷ 1 ∷ run 16 0 0 (5 ∷ 0 ∷ 0 ∷ 0 ∷ 0 ∷ 0 ∷ 0 ∷ 1 ∷ run 16 0 0 (5 ∷ run 30 0 0 (1 ∷ run 38 0 0 ([]))))); toks = (run 28 5 0 (run 14 4 0 (run 14 2 0 (run 14 1 0 ([]))))); res = words ([]); nodes = ((node 1 2 0 1 4 1091829760 0 0 0 ∷ node 1 9 0 2 3 1075838976 0 0 1 ∷ node 0 0 0 0 0 0 0 0 2 ∷ node 0 0 0 0 0 0 0 0 2 ∷ node 0 0 0 0 0 1073741824 0 0 1 ∷ node 0 0 0 0 0 0 0 0 0 ∷ node 0 0 0 0 0 0 0 0 0 ∷ []) ++ fill_nodes 1 7 3); spans = ((span 0 5 ∷ span 0 3 ∷ span 0 2 ∷ span 2 3 ∷ span 3 5 ∷ span 0 0 ∷ span 0 0 ∷ []) ++ fill_spans 1 7 3); queue = replicate 5 (no_waiting); counts = replicate 4544 (0) })

-- the deeper leaf, or the earlier span, first at equal gains and rows; the deeper before more rows; a greater gain not asked
abbrev lent_287 : Lent singles
lent_287 = lent (run 24 0 0 (1 ∷ run 23 0 0 (2 ∷ run 23 0 0 (3 ∷ run 23 0 0 (4 ∷ run 23 0 0 (5 ∷ run 23 0 0 ([]))))))) (1 ∷ run 14 0 0 (16 ∷ run 12 0 0 (16 ∷ run 13 0 0 (1 ∷ 16 ∷ run 12 0 0 (16 ∷ 1 ∷ run 26 0 0 ([])))))) ([]) (([]) ++ fill_nodes 1 0 9) 9 5 5490 1

abbrev job_287 : Job
job_287 = learning (settings 17 5 0 0 0 2 32 1 3 0 0) (0 ∷ 0 ∷ 1065353216 ∷ 1070260237 ∷ 1073741824 ∷ 1075092088 ∷ 1076195335 ∷ []) lent_287

abbrev answer_287 : Answer
answer_287 = tree 9 5 4611686018427387904 4619291345725423616 (record { props = words (5 ∷ run 23 0 0 (4 ∷ run 23 0 0 (3 ∷ run 23 0 0 (2 ∷ run 23 0 0 (1 ∷ run 47 0 0 ([])))))); toks = (run 14 0 0 (16 ∷ 1 ∷ run 12 0 0 (1 ∷ 16 ∷ run 12 0 0 (16 ∷ run 14 0 0 (16 ∷ run 12 0 0 (1 ∷ run 13 0 0 ([]))))))); res = words ([]); nodes = ((node 1 0 1 1 2 1095504902 1 0 0 ∷ node 1 0 3 3 4 1090519040 1 0 1 ∷ node 1 0 0 7 8 1073741824 0 0 1 ∷ node 0 0 0 0 0 1073741824 1 0 2 ∷ node 1 0 2 5 6 1082130432 0 0 2 ∷ node 0 0 0 0 0 0 0 0 3 ∷ node 0 0 0 0 0 0 1 0 3 ∷ node 0 0 0 0 0 0 0 0 2 ∷ node 0 0 0 0 0 0 0 0 2 ∷ []) ++ fill_nodes 1 9 0); spans = ((span 0 6 ∷ span 0 4 ∷ span 4 6 ∷ span 0 2 ∷ span 2 4 ∷ span 2 3 ∷ span 3 4 ∷ span 4 5 ∷ span 5 6 ∷ []) ++ fill_spans 1 9 0); queue = replicate 5 (no_waiting); counts = replicate 5490 (0) })

-- rows not looked at; fewer rows first; two rows more at least; half the rows; one leaf's rows for both
abbrev lent_288 : Lent singles
lent_288 = lent (run 24 0 0 (1 ∷ run 23 0 0 (2 ∷ run 23 0 0 (3 ∷ run 23 0 0 (4 ∷ run 23 0 0 ([])))))) (0 ∷ 16 ∷ run 13 0 0 (16 ∷ run 12 0 0 (44 ∷ run 14 0 0 (44 ∷ run 12 0 0 (24 ∷ run 13 0 0 ([])))))) ([]) (([]) ++ fill_nodes 1 0 5) 5 3 7786 1

abbrev job_288 : Job
job_288 = learning (settings 45 3 0 0 0 2 32 1 3 0 0) (0 ∷ 0 ∷ 0 ∷ 0 ∷ 0 ∷ 0 ∷ []) lent_288

abbrev answer_288 : Answer
answer_288 = tree 5 3 4616189618054758400 4616189618054758400 (record { props = words (4 ∷ run 23 0 0 (3 ∷ run 23 0 0 (2 ∷ run 47 0 0 (1 ∷ run 23 0 0 ([]))))); toks = (24 ∷ run 14 0 0 (44 ∷ run 12 0 0 (44 ∷ run 14 0 0 (16 ∷ run 13 0 0 (16 ∷ run 12 0 0 ([])))))); res = words ([]); nodes = ((node 1 0 2 1 2 1095761920 0 0 0 ∷ node 0 0 0 0 0 1082130432 0 0 1 ∷ node 1 0 1 3 4 1082130432 1 0 1 ∷ node 0 0 0 0 0 0 1 0 2 ∷ node 0 0 0 0 0 0 0 0 2 ∷ []) ++ fill_nodes 1 5 0); spans = ((span 0 5 ∷ span 0 2 ∷ span 2 5 ∷ span 2 3 ∷ span 3 5 ∷ []) ++ fill_spans 1 5 0); queue = replicate 3 (no_waiting); counts = replicate 7786 (0) })

-- rows not looked at, or fewer rows first, in a seed
abbrev lent_289 : Lent singles
lent_289 = lent (run 24 0 0 (1 ∷ run 23 0 0 (2 ∷ run 23 0 0 (3 ∷ run 23 0 0 (4 ∷ run 23 0 0 ([])))))) (0 ∷ 16 ∷ run 13 0 0 (16 ∷ run 12 0 0 (44 ∷ run 14 0 0 (44 ∷ run 12 0 0 (24 ∷ run 13 0 0 ([])))))) ([]) ((node 1 0 2 1 2 0 0 0 0 ∷ node 0 0 0 0 0 0 0 0 1 ∷ node 0 0 0 0 0 0 0 0 1 ∷ []) ++ fill_nodes 1 3 2) 5 3 7786 1

abbrev job_289 : Job
job_289 = deepening (settings 45 3 0 0 0 2 32 1 3 0 0) (0 ∷ 0 ∷ 0 ∷ 0 ∷ 0 ∷ 0 ∷ []) 3 lent_289

abbrev answer_289 : Answer
answer_289 = tree 5 3 4616189618054758400 4616189618054758400 (record { props = words (3 ∷ run 23 0 0 (4 ∷ run 23 0 0 (2 ∷ run 23 0 0 (1 ∷ run 47 0 0 ([]))))); toks = (0 ∷ 44 ∷ run 12 0 0 (24 ∷ run 13 0 0 (44 ∷ run 14 0 0 (16 ∷ run 13 0 0 (16 ∷ run 12 0 0 ([])))))); res = words ([]); nodes = ((node 1 0 2 1 2 2139095040 0 0 0 ∷ node 0 0 0 0 0 1082130432 0 0 1 ∷ node 1 0 1 3 4 1082130432 1 0 1 ∷ node 0 0 0 0 0 0 1 0 2 ∷ node 0 0 0 0 0 0 0 0 2 ∷ []) ++ fill_nodes 1 5 0); spans = ((span 0 0 ∷ span 0 2 ∷ span 2 5 ∷ span 2 3 ∷ span 3 5 ∷ []) ++ fill_spans 1 5 0); queue = replicate 3 (no_waiting); counts = replicate 7786 (0) })

-- a span's end, or its first row, for its rows; fewer rows first; the higher number at equal gains; the claims traded
abbrev lent_290 : Lent singles
lent_290 = lent (run 9 0 0 (1 ∷ run 40 0 0 (1 ∷ 0 ∷ 0 ∷ 0 ∷ 0 ∷ 0 ∷ 0 ∷ 1 ∷ run 16 0 0 (1 ∷ run 23 0 0 (1 ∷ run 21 0 0 ([])))))) (24 ∷ run 14 0 0 (24 ∷ run 12 0 0 (24 ∷ run 14 0 0 (24 ∷ run 26 0 0 ([]))))) ([]) ((node 1 2 0 1 2 0 0 0 0 ∷ node 0 0 0 0 0 0 0 0 1 ∷ node 0 0 0 0 0 0 0 0 1 ∷ []) ++ fill_nodes 1 3 2) 5 3 6616 1

abbrev job_290 : Job
job_290 = deepening (settings 45 3 0 0 0 2 2 1 3 0 0) (0 ∷ 0 ∷ 0 ∷ 0 ∷ 0 ∷ 0 ∷ []) 3 lent_290

abbrev answer_290 : Answer
answer_290 = tree 5 3 4616189618054758400 4620693217682128896 (record { props = words (0 ∷ 0 ∷ 1 ∷ 0 ∷ 0 ∷ 0 ∷ 0 ∷ 0 ∷ 0 ∷ 1 ∷ run 16 0 0 (1 ∷ run 23 0 0 (1 ∷ run 30 0 0 (1 ∷ run 38 0 0 ([]))))); toks = (24 ∷ run 28 0 0 (24 ∷ run 12 0 0 (24 ∷ run 14 0 0 (24 ∷ run 12 0 0 ([]))))); res = words ([]); nodes = ((node 1 2 0 1 2 2139095040 0 0 0 ∷ node 1 9 0 3 4 1082130432 0 0 1 ∷ node 0 0 0 0 0 1082130432 0 0 1 ∷ node 0 0 0 0 0 0 1 0 2 ∷ node 0 0 0 0 0 0 0 0 2 ∷ []) ++ fill_nodes 1 5 0); spans = ((span 0 0 ∷ span 0 3 ∷ span 3 5 ∷ span 0 1 ∷ span 1 3 ∷ []) ++ fill_spans 1 5 0); queue = replicate 3 (no_waiting); counts = replicate 6616 (0) })

-- rows before gains, or alone; more rows though the gain is less; one leaf's gain for both; less gain first
abbrev lent_291 : Lent singles
lent_291 = lent (run 9 0 0 (1 ∷ run 23 0 0 (1 ∷ run 64 0 0 (1 ∷ 0 ∷ 0 ∷ 0 ∷ 0 ∷ 0 ∷ 0 ∷ 1 ∷ run 16 0 0 (1 ∷ run 21 0 0 ([])))))) (16 ∷ run 28 0 0 (16 ∷ run 26 0 0 (24 ∷ run 14 0 0 (24 ∷ run 12 0 0 ([]))))) ([]) ((node 1 2 0 1 2 0 0 0 0 ∷ node 0 0 0 0 0 0 0 0 1 ∷ node 0 0 0 0 0 0 0 0 1 ∷ []) ++ fill_nodes 1 3 2) 5 3 6616 1

abbrev job_291 : Job
job_291 = deepening (settings 45 3 0 0 0 2 2 1 3 0 0) (0 ∷ 0 ∷ 0 ∷ 0 ∷ 0 ∷ 0 ∷ 0 ∷ []) 3 lent_291

abbrev answer_291 : Answer
answer_291 = tree 5 3 4611686018427387904 4618441417868443648 (record { props = words (0 ∷ 0 ∷ 1 ∷ 0 ∷ 0 ∷ 0 ∷ 0 ∷ 0 ∷ 0 ∷ 1 ∷ run 16 0 0 (1 ∷ run 30 0 0 (1 ∷ run 23 0 0 (1 ∷ run 62 0 0 ([]))))); toks = (24 ∷ run 14 0 0 (24 ∷ run 12 0 0 (16 ∷ run 28 0 0 (16 ∷ run 26 0 0 ([]))))); res = words ([]); nodes = ((node 1 2 0 1 2 2139095040 0 0 0 ∷ node 1 9 0 3 4 1082130432 0 0 1 ∷ node 0 0 0 0 0 1073741824 0 0 1 ∷ node 0 0 0 0 0 0 1 0 2 ∷ node 0 0 0 0 0 0 0 0 2 ∷ []) ++ fill_nodes 1 5 0); spans = ((span 0 0 ∷ span 0 2 ∷ span 2 6 ∷ span 0 1 ∷ span 1 2 ∷ []) ++ fill_spans 1 5 0); queue = replicate 3 (no_waiting); counts = replicate 6616 (0) })

-- a greater gain only if there are as many rows; rows before gains; the last leaf not looked at
abbrev lent_292 : Lent singles
lent_292 = lent (run 9 0 0 (1 ∷ run 40 0 0 (1 ∷ 0 ∷ 0 ∷ 0 ∷ 0 ∷ 0 ∷ 0 ∷ 1 ∷ run 16 0 0 (1 ∷ 0 ∷ 0 ∷ 0 ∷ 0 ∷ 0 ∷ 0 ∷ 1 ∷ run 16 0 0 (1 ∷ run 23 0 0 (1 ∷ run 21 0 0 ([]))))))) (24 ∷ run 14 0 0 (24 ∷ run 12 0 0 (16 ∷ run 28 0 0 (16 ∷ run 26 0 0 ([]))))) ([]) ((node 1 2 0 1 2 0 0 0 0 ∷ node 0 0 0 0 0 0 0 0 1 ∷ node 0 0 0 0 0 0 0 0 1 ∷ []) ++ fill_nodes 1 3 2) 5 3 6616 1

abbrev job_292 : Job
job_292 = deepening (settings 45 3 0 0 0 2 2 1 3 0 0) (0 ∷ 0 ∷ 0 ∷ 0 ∷ 0 ∷ 0 ∷ 0 ∷ []) 3 lent_292

abbrev answer_292 : Answer
answer_292 = tree 5 3 4611686018427387904 4618441417868443648 (record { props = words (0 ∷ 0 ∷ 1 ∷ 0 ∷ 0 ∷ 0 ∷ 0 ∷ 0 ∷ 0 ∷ 1 ∷ run 16 0 0 (1 ∷ 0 ∷ 0 ∷ 0 ∷ 0 ∷ 0 ∷ 0 ∷ 1 ∷ run 16 0 0 (1 ∷ run 23 0 0 (1 ∷ run 30 0 0 (1 ∷ run 38 0 0 ([])))))); toks = (16 ∷ run 28 0 0 (16 ∷ run 26 0 0 (24 ∷ run 14 0 0 (24 ∷ run 12 0 0 ([]))))); res = words ([]); nodes = ((node 1 2 0 1 2 2139095040 0 0 0 ∷ node 0 0 0 0 0 1073741824 0 0 1 ∷ node 1 9 0 3 4 1082130432 0 0 1 ∷ node 0 0 0 0 0 0 1 0 2 ∷ node 0 0 0 0 0 0 0 0 2 ∷ []) ++ fill_nodes 1 5 0); spans = ((span 0 0 ∷ span 0 4 ∷ span 4 6 ∷ []) ++ fill_spans 1 3 2); queue = replicate 3 (no_waiting); counts = replicate 6616 (0) })

-- the rows below, or above, for all; the shallower leaf, or the later span, first at equal gains and rows
abbrev lent_293 : Lent singles
lent_293 = lent (run 9 0 0 (1 ∷ run 23 0 0 (1 ∷ run 40 0 0 (1 ∷ 0 ∷ 0 ∷ 0 ∷ 0 ∷ 0 ∷ 0 ∷ 1 ∷ run 16 0 0 (1 ∷ run 23 0 0 (1 ∷ run 23 0 0 (2 ∷ 0 ∷ 0 ∷ 0 ∷ 0 ∷ 0 ∷ 0 ∷ 1 ∷ run 16 0 0 (2 ∷ 0 ∷ 0 ∷ 0 ∷ 0 ∷ 0 ∷ 0 ∷ 1 ∷ run 16 0 0 (2 ∷ run 21 0 0 ([])))))))))) (24 ∷ run 28 0 0 (24 ∷ run 12 0 0 (24 ∷ run 14 0 0 (24 ∷ run 26 0 0 (24 ∷ run 28 0 0 (24 ∷ run 12 0 0 ([]))))))) ([]) ((node 1 2 0 1 4 0 0 0 0 ∷ node 1 2 1 2 3 0 0 0 1 ∷ node 0 0 0 0 0 0 0 0 2 ∷ node 0 0 0 0 0 0 0 0 2 ∷ node 0 0 0 0 0 0 0 0 1 ∷ []) ++ fill_nodes 1 5 4) 9 5 6616 1

abbrev job_293 : Job
job_293 = deepening (settings 45 5 0 0 0 2 2 1 3 0 0) (run 10 0 0 ([])) 5 lent_293

abbrev answer_293 : Answer
answer_293 = tree 9 5 4616189618054758400 4622945017495814144 (record { props = words (0 ∷ 0 ∷ 2 ∷ 0 ∷ 0 ∷ 0 ∷ 0 ∷ 0 ∷ 0 ∷ 1 ∷ run 16 0 0 (2 ∷ 0 ∷ 0 ∷ 0 ∷ 0 ∷ 0 ∷ 0 ∷ 1 ∷ run 16 0 0 (2 ∷ run 23 0 0 (1 ∷ 0 ∷ 0 ∷ 0 ∷ 0 ∷ 0 ∷ 0 ∷ 1 ∷ run 16 0 0 (1 ∷ run 23 0 0 (1 ∷ run 30 0 0 (1 ∷ run 23 0 0 (1 ∷ run 38 0 0 ([]))))))))); toks = (24 ∷ run 28 0 0 (24 ∷ run 12 0 0 (24 ∷ run 28 0 0 (24 ∷ run 12 0 0 (24 ∷ run 28 0 0 (24 ∷ run 12 0 0 ([]))))))); res = words ([]); nodes = ((node 1 2 0 1 4 2139095040 0 0 0 ∷ node 1 2 1 2 3 2139095040 0 0 1 ∷ node 1 9 0 5 6 1082130432 0 0 2 ∷ node 1 9 0 7 8 1082130432 0 0 2 ∷ node 0 0 0 0 0 1082130432 0 0 1 ∷ node 0 0 0 0 0 0 1 0 3 ∷ node 0 0 0 0 0 0 0 0 3 ∷ node 0 0 0 0 0 0 1 0 3 ∷ node 0 0 0 0 0 0 0 0 3 ∷ []) ++ fill_nodes 1 9 0); spans = ((span 0 0 ∷ span 0 0 ∷ span 0 3 ∷ span 3 6 ∷ span 6 9 ∷ span 0 2 ∷ span 2 3 ∷ span 3 4 ∷ span 4 6 ∷ []) ++ fill_spans 1 9 0); queue = replicate 5 (no_waiting); counts = replicate 6616 (0) })

-- the shallower leaf before more rows; the rows of the node before; the higher number at equal gains and rows
abbrev lent_294 : Lent singles
lent_294 = lent (run 9 0 0 (1 ∷ run 40 0 0 (1 ∷ 0 ∷ 0 ∷ 0 ∷ 0 ∷ 0 ∷ 0 ∷ 1 ∷ run 16 0 0 (1 ∷ run 23 0 0 (1 ∷ run 23 0 0 (2 ∷ 0 ∷ 0 ∷ 0 ∷ 0 ∷ 0 ∷ 0 ∷ 1 ∷ run 16 0 0 (2 ∷ run 21 0 0 ([])))))))) (24 ∷ run 14 0 0 (24 ∷ run 12 0 0 (24 ∷ run 14 0 0 (24 ∷ run 26 0 0 (24 ∷ run 14 0 0 (24 ∷ run 12 0 0 ([]))))))) ([]) ((node 1 2 0 1 4 0 0 0 0 ∷ node 1 2 1 2 3 0 0 0 1 ∷ node 0 0 0 0 0 0 0 0 2 ∷ node 0 0 0 0 0 0 0 0 2 ∷ node 0 0 0 0 0 0 0 0 1 ∷ []) ++ fill_nodes 1 5 4) 9 5 6616 1

abbrev job_294 : Job
job_294 = deepening (settings 45 5 0 0 0 2 2 1 3 0 0) (run 8 0 0 ([])) 5 lent_294

abbrev answer_294 : Answer
answer_294 = tree 9 5 4616189618054758400 4622945017495814144 (record { props = words (0 ∷ 0 ∷ 2 ∷ 0 ∷ 0 ∷ 0 ∷ 0 ∷ 0 ∷ 0 ∷ 1 ∷ run 16 0 0 (2 ∷ run 23 0 0 (1 ∷ 0 ∷ 0 ∷ 0 ∷ 0 ∷ 0 ∷ 0 ∷ 1 ∷ run 16 0 0 (1 ∷ run 23 0 0 (1 ∷ run 30 0 0 (1 ∷ run 38 0 0 ([]))))))); toks = (24 ∷ run 14 0 0 (24 ∷ run 12 0 0 (24 ∷ run 28 0 0 (24 ∷ run 12 0 0 (24 ∷ run 14 0 0 (24 ∷ run 12 0 0 ([]))))))); res = words ([]); nodes = ((node 1 2 0 1 4 2139095040 0 0 0 ∷ node 1 2 1 2 3 2139095040 0 0 1 ∷ node 1 9 0 7 8 1082130432 0 0 2 ∷ node 1 9 0 5 6 1082130432 0 0 2 ∷ node 0 0 0 0 0 1082130432 0 0 1 ∷ node 0 0 0 0 0 0 1 0 3 ∷ node 0 0 0 0 0 0 0 0 3 ∷ node 0 0 0 0 0 0 1 0 3 ∷ node 0 0 0 0 0 0 0 0 3 ∷ []) ++ fill_nodes 1 9 0); spans = ((span 0 0 ∷ span 0 0 ∷ span 0 2 ∷ span 2 5 ∷ span 5 7 ∷ span 2 3 ∷ span 3 5 ∷ span 0 1 ∷ span 1 2 ∷ []) ++ fill_spans 1 9 0); queue = replicate 5 (no_waiting); counts = replicate 6616 (0) })

-- an old leaf before a new one with more rows
abbrev lent_295 : Lent singles
lent_295 = lent (run 9 0 0 (1 ∷ 1 ∷ run 22 0 0 (1 ∷ run 23 0 0 (1 ∷ run 40 0 0 (1 ∷ 0 ∷ 0 ∷ 0 ∷ 0 ∷ 0 ∷ 0 ∷ 1 ∷ run 16 0 0 (1 ∷ run 21 0 0 ([]))))))) (24 ∷ run 14 0 0 (44 ∷ run 26 0 0 (28 ∷ run 13 0 0 (24 ∷ run 14 0 0 (24 ∷ run 12 0 0 ([])))))) ([]) ((node 1 2 0 1 2 0 0 0 0 ∷ node 0 0 0 0 0 0 0 0 1 ∷ node 0 0 0 0 0 0 0 0 1 ∷ []) ++ fill_nodes 1 3 4) 7 4 6616 1

abbrev job_295 : Job
job_295 = deepening (settings 45 4 0 0 0 2 2 1 3 0 0) (0 ∷ 0 ∷ 0 ∷ 0 ∷ 0 ∷ 0 ∷ 0 ∷ []) 3 lent_295

abbrev answer_295 : Answer
answer_295 = tree 7 4 4616189618054758400 4623507967449235456 (record { props = words (0 ∷ 0 ∷ 1 ∷ 0 ∷ 0 ∷ 0 ∷ 0 ∷ 0 ∷ 0 ∷ 1 ∷ run 16 0 0 (1 ∷ run 30 0 0 (1 ∷ 1 ∷ run 22 0 0 (1 ∷ run 23 0 0 (1 ∷ run 38 0 0 ([])))))); toks = (24 ∷ run 14 0 0 (24 ∷ run 12 0 0 (24 ∷ run 28 0 0 (44 ∷ run 12 0 0 (28 ∷ run 13 0 0 ([])))))); res = words ([]); nodes = ((node 1 2 0 1 2 2139095040 0 0 0 ∷ node 0 0 0 0 0 1082130432 0 0 1 ∷ node 1 9 0 3 4 1091567616 0 0 1 ∷ node 1 10 0 5 6 1082130432 0 0 2 ∷ node 0 0 0 0 0 0 1 0 2 ∷ node 0 0 0 0 0 0 1 0 3 ∷ node 0 0 0 0 0 0 0 0 3 ∷ []) ++ fill_nodes 1 7 0); spans = ((span 0 0 ∷ span 0 2 ∷ span 2 6 ∷ span 2 5 ∷ span 5 6 ∷ span 2 3 ∷ span 3 5 ∷ []) ++ fill_spans 1 7 0); queue = replicate 4 (no_waiting); counts = replicate 6616 (0) })

-- a parent's rows for its leaf's; the deeper leaf before more rows
abbrev lent_296 : Lent singles
lent_296 = lent (run 9 0 0 (1 ∷ 1 ∷ run 22 0 0 (1 ∷ run 64 0 0 (1 ∷ 0 ∷ 0 ∷ 0 ∷ 0 ∷ 0 ∷ 0 ∷ 1 ∷ run 16 0 0 (1 ∷ run 23 0 0 (1 ∷ run 21 0 0 ([]))))))) (24 ∷ run 14 0 0 (44 ∷ run 12 0 0 (28 ∷ run 27 0 0 (24 ∷ run 14 0 0 (24 ∷ run 26 0 0 ([])))))) ([]) ((node 1 2 0 1 2 0 0 0 0 ∷ node 0 0 0 0 0 0 0 0 1 ∷ node 0 0 0 0 0 0 0 0 1 ∷ []) ++ fill_nodes 1 3 4) 7 4 6616 1

abbrev job_296 : Job
job_296 = deepening (settings 45 4 0 0 0 2 2 1 3 0 0) (run 8 0 0 ([])) 3 lent_296

abbrev answer_296 : Answer
answer_296 = tree 7 4 4616189618054758400 4623507967449235456 (record { props = words (0 ∷ 0 ∷ 1 ∷ 0 ∷ 0 ∷ 0 ∷ 0 ∷ 0 ∷ 0 ∷ 1 ∷ run 16 0 0 (1 ∷ run 23 0 0 (1 ∷ run 30 0 0 (1 ∷ 1 ∷ run 22 0 0 (1 ∷ run 62 0 0 ([])))))); toks = (24 ∷ run 28 0 0 (24 ∷ run 12 0 0 (24 ∷ run 14 0 0 (44 ∷ run 26 0 0 (28 ∷ run 13 0 0 ([])))))); res = words ([]); nodes = ((node 1 2 0 1 2 2139095040 0 0 0 ∷ node 1 9 0 5 6 1082130432 0 0 1 ∷ node 1 9 0 3 4 1091567616 0 0 1 ∷ node 0 0 0 0 0 1082130432 0 0 2 ∷ node 0 0 0 0 0 0 1 0 2 ∷ node 0 0 0 0 0 0 1 0 2 ∷ node 0 0 0 0 0 0 0 0 2 ∷ []) ++ fill_nodes 1 7 0); spans = ((span 0 0 ∷ span 0 3 ∷ span 3 7 ∷ span 3 5 ∷ span 5 7 ∷ span 0 1 ∷ span 1 3 ∷ []) ++ fill_spans 1 7 0); queue = replicate 4 (no_waiting); counts = replicate 6616 (0) })

abbrev pub part_jobs : List Job
part_jobs = job_0 ∷ job_1 ∷ job_2 ∷ job_3 ∷ job_4 ∷ job_5 ∷ job_6 ∷ job_7 ∷ job_8 ∷ job_9 ∷ job_10 ∷ job_11 ∷ job_12 ∷ job_13 ∷ job_14 ∷ job_15 ∷ job_16 ∷ job_17 ∷ job_18 ∷ job_19 ∷ job_20 ∷ job_21 ∷ job_22 ∷ job_23 ∷ job_24 ∷ job_25 ∷ job_26 ∷ job_27 ∷ job_28 ∷ job_29 ∷ job_30 ∷ job_31 ∷ job_32 ∷ job_33 ∷ job_34 ∷ job_35 ∷ job_36 ∷ job_37 ∷ job_38 ∷ job_39 ∷ job_40 ∷ job_41 ∷ job_42 ∷ job_43 ∷ job_44 ∷ job_45 ∷ job_46 ∷ job_47 ∷ job_48 ∷ job_49 ∷ job_50 ∷ job_51 ∷ job_52 ∷ job_53 ∷ job_54 ∷ job_55 ∷ job_56 ∷ job_57 ∷ job_58 ∷ job_59 ∷ job_60 ∷ job_61 ∷ job_62 ∷ job_63 ∷ job_64 ∷ job_65 ∷ job_66 ∷ job_67 ∷ job_68 ∷ job_69 ∷ job_70 ∷ job_71 ∷ job_72 ∷ job_73 ∷ job_74 ∷ job_75 ∷ job_76 ∷ job_77 ∷ job_78 ∷ job_79 ∷ job_80 ∷ job_81 ∷ job_82 ∷ job_83 ∷ job_84 ∷ job_85 ∷ job_86 ∷ job_87 ∷ job_88 ∷ job_89 ∷ job_90 ∷ job_91 ∷ job_92 ∷ job_93 ∷ job_94 ∷ job_95 ∷ job_96 ∷ job_97 ∷ job_98 ∷ job_99 ∷ job_100 ∷ job_101 ∷ job_102 ∷ job_103 ∷ job_104 ∷ job_105 ∷ job_106 ∷ job_107 ∷ job_108 ∷ job_109 ∷ job_110 ∷ job_111 ∷ job_112 ∷ job_113 ∷ job_114 ∷ job_115 ∷ job_116 ∷ job_117 ∷ job_118 ∷ job_119 ∷ job_120 ∷ job_121 ∷ job_122 ∷ job_123 ∷ job_124 ∷ job_125 ∷ job_126 ∷ job_127 ∷ job_128 ∷ job_129 ∷ job_130 ∷ job_131 ∷ job_132 ∷ job_133 ∷ job_134 ∷ job_135 ∷ job_136 ∷ job_137 ∷ job_138 ∷ job_139 ∷ job_140 ∷ job_141 ∷ job_142 ∷ job_143 ∷ job_144 ∷ job_145 ∷ job_146 ∷ job_147 ∷ job_148 ∷ job_149 ∷ job_150 ∷ job_151 ∷ job_152 ∷ job_153 ∷ job_154 ∷ job_155 ∷ job_156 ∷ job_157 ∷ job_158 ∷ job_159 ∷ job_160 ∷ job_161 ∷ job_162 ∷ job_163 ∷ job_164 ∷ job_165 ∷ job_166 ∷ job_167 ∷ job_168 ∷ job_169 ∷ job_170 ∷ job_171 ∷ job_172 ∷ job_173 ∷ job_174 ∷ job_175 ∷ job_176 ∷ job_177 ∷ job_178 ∷ job_179 ∷ job_180 ∷ job_181 ∷ job_182 ∷ job_183 ∷ job_184 ∷ job_185 ∷ job_186 ∷ job_187 ∷ job_188 ∷ job_189 ∷ job_190 ∷ job_191 ∷ job_192 ∷ job_193 ∷ job_194 ∷ job_195 ∷ job_196 ∷ job_197 ∷ job_198 ∷ job_199 ∷ job_200 ∷ job_201 ∷ job_262 ∷ job_263 ∷ job_265 ∷ job_266 ∷ job_267 ∷ job_268 ∷ job_269 ∷ job_270 ∷ job_271 ∷ job_273 ∷ job_274 ∷ job_275 ∷ job_276 ∷ job_277 ∷ job_278 ∷ job_279 ∷ job_280 ∷ job_281 ∷ []

abbrev pub part_answers : List Answer
part_answers = answer_0 ∷ answer_1 ∷ answer_2 ∷ answer_3 ∷ answer_4 ∷ answer_5 ∷ answer_6 ∷ answer_7 ∷ answer_8 ∷ answer_9 ∷ answer_10 ∷ answer_11 ∷ answer_12 ∷ answer_13 ∷ answer_14 ∷ answer_15 ∷ answer_16 ∷ answer_17 ∷ answer_18 ∷ answer_19 ∷ answer_20 ∷ answer_21 ∷ answer_22 ∷ answer_23 ∷ answer_24 ∷ answer_25 ∷ answer_26 ∷ answer_27 ∷ answer_28 ∷ answer_29 ∷ answer_30 ∷ answer_31 ∷ answer_32 ∷ answer_33 ∷ answer_34 ∷ answer_35 ∷ answer_36 ∷ answer_37 ∷ answer_38 ∷ answer_39 ∷ answer_40 ∷ answer_41 ∷ answer_42 ∷ answer_43 ∷ answer_44 ∷ answer_45 ∷ answer_46 ∷ answer_47 ∷ answer_48 ∷ answer_49 ∷ answer_50 ∷ answer_51 ∷ answer_52 ∷ answer_53 ∷ answer_54 ∷ answer_55 ∷ answer_56 ∷ answer_57 ∷ answer_58 ∷ answer_59 ∷ answer_60 ∷ answer_61 ∷ answer_62 ∷ answer_63 ∷ answer_64 ∷ answer_65 ∷ answer_66 ∷ answer_67 ∷ answer_68 ∷ answer_69 ∷ answer_70 ∷ answer_71 ∷ answer_72 ∷ answer_73 ∷ answer_74 ∷ answer_75 ∷ answer_76 ∷ answer_77 ∷ answer_78 ∷ answer_79 ∷ answer_80 ∷ answer_81 ∷ answer_82 ∷ answer_83 ∷ answer_84 ∷ answer_85 ∷ answer_86 ∷ answer_87 ∷ answer_88 ∷ answer_89 ∷ answer_90 ∷ answer_91 ∷ answer_92 ∷ answer_93 ∷ answer_94 ∷ answer_95 ∷ answer_96 ∷ answer_97 ∷ answer_98 ∷ answer_99 ∷ answer_100 ∷ answer_101 ∷ answer_102 ∷ answer_103 ∷ answer_104 ∷ answer_105 ∷ answer_106 ∷ answer_107 ∷ answer_108 ∷ answer_109 ∷ answer_110 ∷ answer_111 ∷ answer_112 ∷ answer_113 ∷ answer_114 ∷ answer_115 ∷ answer_116 ∷ answer_117 ∷ answer_118 ∷ answer_119 ∷ answer_120 ∷ answer_121 ∷ answer_122 ∷ answer_123 ∷ answer_124 ∷ answer_125 ∷ answer_126 ∷ answer_127 ∷ answer_128 ∷ answer_129 ∷ answer_130 ∷ answer_131 ∷ answer_132 ∷ answer_133 ∷ answer_134 ∷ answer_135 ∷ answer_136 ∷ answer_137 ∷ answer_138 ∷ answer_139 ∷ answer_140 ∷ answer_141 ∷ answer_142 ∷ answer_143 ∷ answer_144 ∷ answer_145 ∷ answer_146 ∷ answer_147 ∷ answer_148 ∷ answer_149 ∷ answer_150 ∷ answer_151 ∷ answer_152 ∷ answer_153 ∷ answer_154 ∷ answer_155 ∷ answer_156 ∷ answer_157 ∷ answer_158 ∷ answer_159 ∷ answer_160 ∷ answer_161 ∷ answer_162 ∷ answer_163 ∷ answer_164 ∷ answer_165 ∷ answer_166 ∷ answer_167 ∷ answer_168 ∷ answer_169 ∷ answer_170 ∷ answer_171 ∷ answer_172 ∷ answer_173 ∷ answer_174 ∷ answer_175 ∷ answer_176 ∷ answer_177 ∷ answer_178 ∷ answer_179 ∷ answer_180 ∷ answer_181 ∷ answer_182 ∷ answer_183 ∷ answer_184 ∷ answer_185 ∷ answer_186 ∷ answer_187 ∷ answer_188 ∷ answer_189 ∷ answer_190 ∷ answer_191 ∷ answer_192 ∷ answer_193 ∷ answer_194 ∷ answer_195 ∷ answer_196 ∷ answer_197 ∷ answer_198 ∷ answer_199 ∷ answer_200 ∷ answer_201 ∷ answer_262 ∷ answer_263 ∷ answer_265 ∷ answer_266 ∷ answer_267 ∷ answer_268 ∷ answer_269 ∷ answer_270 ∷ answer_271 ∷ answer_273 ∷ answer_274 ∷ answer_275 ∷ answer_276 ∷ answer_277 ∷ answer_278 ∷ answer_279 ∷ answer_280 ∷ answer_281 ∷ []

abbrev pub grown_jobs : List Job
grown_jobs = job_202 ∷ job_203 ∷ job_204 ∷ job_205 ∷ job_206 ∷ job_207 ∷ job_208 ∷ job_209 ∷ job_210 ∷ job_211 ∷ job_214 ∷ job_215 ∷ job_216 ∷ job_217 ∷ job_218 ∷ job_219 ∷ job_220 ∷ job_221 ∷ job_222 ∷ job_223 ∷ job_224 ∷ job_225 ∷ job_226 ∷ job_251 ∷ job_282 ∷ job_283 ∷ job_284 ∷ job_285 ∷ job_286 ∷ job_287 ∷ job_288 ∷ job_289 ∷ job_290 ∷ job_291 ∷ job_292 ∷ job_293 ∷ job_294 ∷ job_295 ∷ job_296 ∷ []

abbrev pub grown_answers : List Answer
grown_answers = answer_202 ∷ answer_203 ∷ answer_204 ∷ answer_205 ∷ answer_206 ∷ answer_207 ∷ answer_208 ∷ answer_209 ∷ answer_210 ∷ answer_211 ∷ answer_214 ∷ answer_215 ∷ answer_216 ∷ answer_217 ∷ answer_218 ∷ answer_219 ∷ answer_220 ∷ answer_221 ∷ answer_222 ∷ answer_223 ∷ answer_224 ∷ answer_225 ∷ answer_226 ∷ answer_251 ∷ answer_282 ∷ answer_283 ∷ answer_284 ∷ answer_285 ∷ answer_286 ∷ answer_287 ∷ answer_288 ∷ answer_289 ∷ answer_290 ∷ answer_291 ∷ answer_292 ∷ answer_293 ∷ answer_294 ∷ answer_295 ∷ answer_296 ∷ []

abbrev pub refused_jobs : List Job
refused_jobs = job_212 ∷ job_213 ∷ job_227 ∷ job_228 ∷ job_229 ∷ job_230 ∷ job_231 ∷ job_232 ∷ job_233 ∷ job_234 ∷ job_235 ∷ job_236 ∷ job_237 ∷ job_238 ∷ job_239 ∷ job_240 ∷ job_241 ∷ job_242 ∷ job_243 ∷ job_244 ∷ job_245 ∷ job_246 ∷ job_247 ∷ job_248 ∷ job_249 ∷ job_250 ∷ job_252 ∷ job_253 ∷ job_254 ∷ job_255 ∷ job_256 ∷ job_257 ∷ job_258 ∷ job_259 ∷ job_260 ∷ job_261 ∷ job_264 ∷ job_272 ∷ []

abbrev pub refused_answers : List Answer
refused_answers = answer_212 ∷ answer_213 ∷ answer_227 ∷ answer_228 ∷ answer_229 ∷ answer_230 ∷ answer_231 ∷ answer_232 ∷ answer_233 ∷ answer_234 ∷ answer_235 ∷ answer_236 ∷ answer_237 ∷ answer_238 ∷ answer_239 ∷ answer_240 ∷ answer_241 ∷ answer_242 ∷ answer_243 ∷ answer_244 ∷ answer_245 ∷ answer_246 ∷ answer_247 ∷ answer_248 ∷ answer_249 ∷ answer_250 ∷ answer_252 ∷ answer_253 ∷ answer_254 ∷ answer_255 ∷ answer_256 ∷ answer_257 ∷ answer_258 ∷ answer_259 ∷ answer_260 ∷ answer_261 ∷ answer_264 ∷ answer_272 ∷ []
