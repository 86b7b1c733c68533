-- The rows of the router.
use Rattle.std.specs.Prelude.{[], ◌∷◌, ◌++◌, codes}
use Rattle.matchit.specs.Rows.{RowsOf, param_token}
use Rattle.matchit.specs.Router.{RouteOf}
use Rattle.tus_request.specs.declared.places.Kind.{Kind}
use Rattle.tus_request.specs.declared.places.Kind.TheVariants.{Files, Upload}

abbrev pub files_route : RouteOf Kind
files_route = record { pattern = codes "/files"; text = codes "/files"; names = []; value = Files }

-- The route `/files/{number}`. The name of its parameter is in the text from 8 to 14.
abbrev pub upload_route : RouteOf Kind
upload_route = record {
  pattern = codes "/files/" ++ param_token ∷ [];
  text = codes "/files/{number}";
  names = (8, 14) ∷ [];
  value = Upload;
}

-- The two routes.
abbrev pub route_table : RowsOf (RouteOf Kind)
route_table = (codes "/files/" ++ param_token ∷ [], upload_route) ∷ (codes "/files", files_route) ∷ []
