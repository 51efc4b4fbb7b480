pub mod OpenCubes
