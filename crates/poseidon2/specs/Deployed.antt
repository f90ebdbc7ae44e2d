-- Parameters of Poseidon2 as they are deployed over fields of one word. The constants are drawn by the Grain LFSR; the
-- diagonals, less 1, stand as numbers.
use Rattle.std.specs.Prelude.{ℕ, ◌==◌, if◌then◌else◌, List, [], ◌∷◌, Err, Ok}
use Rattle.ark_base.specs.declared.error.Error.TheVariants.{IncorrectInputLength}
use Rattle.ark_base.specs.Outcome.{Outcome}
use Rattle.poseidon2.specs.Permutation.{Poseidon2Parameters}
use Rattle.poseidon2.specs.Ready.{drawn_parameters}

-- ---- diagonals

-- over Goldilocks, for 8 elements: what the authors' generator draws behind three lists that it passes over, less 1
abbrev pub goldilocks_diagonal_8 : List ℕ
goldilocks_diagonal_8 =
    12216033376705242021 ∷ 2072934925475504800 ∷ 16432743296706583078 ∷ 1287600597097751715 ∷ 10482065724875379356
    ∷ 3057917794534811537 ∷ 4460508886913832365 ∷ 4574242228824269566 ∷ []

-- for 12 elements, behind eight lists
abbrev pub goldilocks_diagonal_12 : List ℕ
goldilocks_diagonal_12 =
    14102670999874605824 ∷ 15585654191999307702 ∷ 940187017142450255 ∷ 8747386241522630711 ∷ 6750641561540124747 ∷
    7440998025584530007 ∷ 6136358134615751536 ∷ 12413576830284969611 ∷ 11675438539028694709 ∷ 17580553691069642926
    ∷ 892707462476851331 ∷ 15167485180850043744 ∷ []

-- over BabyBear, for 24 elements, behind four lists; RISC Zero's too
abbrev pub risc_zero_diagonal : List ℕ
risc_zero_diagonal =
    1083257840 ∷ 375892129 ∷ 111593398 ∷ 1867716110 ∷ 658182609 ∷ 51866717 ∷ 1928969209 ∷ 1942928017 ∷ 1558116381
    ∷ 20525701 ∷ 1188752902 ∷ 106789798 ∷ 1389833583 ∷ 98371040 ∷ 1001081699 ∷ 1792686146 ∷ 801504236 ∷ 1997365680
    ∷ 1461037801 ∷ 65998480 ∷ 1974912880 ∷ 606789471 ∷ 13683276 ∷ 918610824 ∷ []

-- over BabyBear, for 16 elements, as Plonky3 has it: -2, 1, 2, 1/2, 3, 4, -1/2, -3, -4, 2^-8, 2^-2, 2^-3, 2^-27, -2^-8,
-- -2^-4, -2^-27
abbrev pub baby_bear_diagonal_16 : List ℕ
baby_bear_diagonal_16 =
    2013265919 ∷ 1 ∷ 2 ∷ 1006632961 ∷ 3 ∷ 4 ∷ 1006632960 ∷ 2013265918 ∷ 2013265917 ∷ 2005401601 ∷ 1509949441 ∷
    1761607681 ∷ 2013265906 ∷ 7864320 ∷ 125829120 ∷ 15 ∷ []

-- for 24: the first nine, then 2^-8, 2^-2, 2^-3, 2^-4, 2^-7, 2^-9, 2^-27, -2^-8, -2^-2, -2^-3, -2^-4, -2^-5, -2^-6,
-- -2^-7, -2^-27
abbrev pub baby_bear_diagonal_24 : List ℕ
baby_bear_diagonal_24 =
    2013265919 ∷ 1 ∷ 2 ∷ 1006632961 ∷ 3 ∷ 4 ∷ 1006632960 ∷ 2013265918 ∷ 2013265917 ∷ 2005401601 ∷ 1509949441 ∷
    1761607681 ∷ 1887436801 ∷ 1997537281 ∷ 2009333761 ∷ 2013265906 ∷ 7864320 ∷ 503316480 ∷ 251658240 ∷ 125829120 ∷
    62914560 ∷ 31457280 ∷ 15728640 ∷ 15 ∷ []

-- over KoalaBear, for 16 elements, as Plonky3 has it: the first nine, then 2^-8, 2^-3, 2^-24, -2^-8, -2^-3, -2^-4,
-- -2^-24
abbrev pub koala_bear_diagonal_16 : List ℕ
koala_bear_diagonal_16 =
    2130706431 ∷ 1 ∷ 2 ∷ 1065353217 ∷ 3 ∷ 4 ∷ 1065353216 ∷ 2130706430 ∷ 2130706429 ∷ 2122383361 ∷ 1864368129 ∷
    2130706306 ∷ 8323072 ∷ 266338304 ∷ 133169152 ∷ 127 ∷ []

-- for 24: the first nine, then 2^-8, 2^-2, 2^-3, 2^-4, 2^-5, 2^-6, 2^-24, -2^-8, -2^-3, -2^-4, -2^-5, -2^-6, -2^-7,
-- -2^-9, -2^-24
abbrev pub koala_bear_diagonal_24 : List ℕ
koala_bear_diagonal_24 =
    2130706431 ∷ 1 ∷ 2 ∷ 1065353217 ∷ 3 ∷ 4 ∷ 1065353216 ∷ 2130706430 ∷ 2130706429 ∷ 2122383361 ∷ 1598029825 ∷
    1864368129 ∷ 1997537281 ∷ 2064121857 ∷ 2097414145 ∷ 2130706306 ∷ 8323072 ∷ 266338304 ∷ 133169152 ∷ 66584576 ∷
    33292288 ∷ 16646144 ∷ 4161536 ∷ 127 ∷ []

-- ---- parameters, by the count of elements that a state has; another count is an error

-- an exponent, eight full rounds and these partial ones, and a diagonal
abbrev pub with_eight : ℕ → ℕ → ℕ → ℕ → List ℕ → Outcome Poseidon2Parameters
with_eight p digits alpha partial diagonal = Ok (drawn_parameters p digits alpha 8 partial diagonal)

-- over Goldilocks, of the authors' code (HorizenLabs/poseidon2), for 8 and 12 elements: seventh powers
abbrev pub goldilocks_outcome : ℕ → ℕ → ℕ → Outcome Poseidon2Parameters
goldilocks_outcome p digits width =
    if width == 8 then with_eight p digits 7 22 goldilocks_diagonal_8
    else if width == 12 then with_eight p digits 7 22 goldilocks_diagonal_12
    else Err (IncorrectInputLength width)

-- over BabyBear, of Plonky3, for 16 and 24 elements: seventh powers
abbrev pub baby_bear_outcome : ℕ → ℕ → ℕ → Outcome Poseidon2Parameters
baby_bear_outcome p digits width =
    if width == 16 then with_eight p digits 7 13 baby_bear_diagonal_16
    else if width == 24 then with_eight p digits 7 21 baby_bear_diagonal_24
    else Err (IncorrectInputLength width)

-- over KoalaBear, of Plonky3, for 16 and 24 elements: third powers
abbrev pub koala_bear_outcome : ℕ → ℕ → ℕ → Outcome Poseidon2Parameters
koala_bear_outcome p digits width =
    if width == 16 then with_eight p digits 3 20 koala_bear_diagonal_16
    else if width == 24 then with_eight p digits 3 23 koala_bear_diagonal_24
    else Err (IncorrectInputLength width)

-- over BabyBear, of the authors' code and RISC Zero, for 24 elements: seventh powers
abbrev pub risc_zero_outcome : ℕ → ℕ → Outcome Poseidon2Parameters
risc_zero_outcome p digits = with_eight p digits 7 21 risc_zero_diagonal
