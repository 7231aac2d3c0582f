pub mod GeometryRecord
