-- A database is made, or a set takes the place of one.
use Rattle.std.proofs.Common.{◌≡◌, List, [], ◌∷◌, map, refl, subst}
use Rattle.bk_hosted.specs.Hosted.{Hosted, Hosts, created_spec, database_of, parked_points, parking, set_log}
use Rattle.bk_hosting.specs.Making.{HaveNoFile}
use Rattle.bk_hosting.specs.Parking.{IsParkedAs}
use Rattle.bk_known.specs.declared.known.Known.{Known}
use Rattle.bk_machine.specs.World.{Database, World}
use Rattle.bk_points.specs.declared.points.Points.{Points}
use Rattle.bk_store.specs.Told.{data_file}
use Rattle.bk_stores.specs.Beside.{ShareNoFile}
use Rattle.bk_world.specs.declared.database.Creation.{Creation}
use Rattle.bk_world.specs.declared.header.Header.{Header}
use Rattle.std.specs.List.{AllByRecursion}
use Rattle.bk_engine.specs.Acts.{HaveNoFileOf, IsSetKnown}

-- where no database of the world has a data file at one of its paths, no hosted one has
have-none : (c : Creation) (hosted : List Hosted) → AllByRecursion (λ (db : Database). ShareNoFile (map data_file c.storage.files) (map data_file db.files)) (map database_of hosted) → HaveNoFile hosted (created_spec c)
have-none c [] none = tt
have-none c (h ∷ hosted) none = (none.0, have-none c hosted none.1)

pub hosted-none : (w : World) (c : Creation) (hosted : List Hosted) → Hosts w hosted → HaveNoFileOf w c → HaveNoFile hosted (created_spec c)
hosted-none w c hosted hosts none = have-none c hosted (subst (λ (dbs : List Database). AllByRecursion (λ (db : Database). ShareNoFile (map data_file c.storage.files) (map data_file db.files)) dbs) hosts.same none)

-- what is known of a set is known of the database that it makes
pub parked-as : (w : World) (header : Header) (known : Known) (points : Points) → points ≡ parked_points header → IsSetKnown w header known → IsParkedAs known points (parking (set_log w header) known.spec.name header)
parked-as w header known points same set = record { known_is = set.is; points_are = same; down = refl; runs = refl; idle = refl; spelled = set.spelled; some = set.some }
